-- The counter of a loop is never used up: each step goes one way, so every counter above the text's length leads to the same end, and a loop is its test,
-- one step and the loop again. Assumes nothing.
use Rattle.lists.proofs.Kit.{◌≡◌, refl, sym, List, Bool, true, false, cond, ℕ, zero, suc, ◌+◌, ◌-◌, ◌≤◌, ◌<◌, arith, length, ltb, ltb-true}
use Rattle.text.specs.Text.{row_len, content_rows, position}
use Rattle.text.specs.Offsets.{row_start}
use Rattle.text.specs.declared.Position.{Position}
use Rattle.text.proofs.Parts.{row_fits, next_start_lem}
use Rattle.text.proofs.Before.{start_after}
use Rattle.word_kinds.specs.Places.{Step, To, Nowhere, next_row, step_forward, dec, further}
use Rattle.word_loops.specs.Walks.{Onto, Stuck, walk, of_kinds, skip, in_row, leave, goes_on, run, of_class, back}
use Rattle.word_loops.proofs.Within.{In, forward_in, dec_in}

-- a step that goes one way: from a place of the text to one, with fewer places ahead
pub record OneWay (t : List ℕ) (step : Position → Step) : Type 0 where
  pub ahead : Position → ℕ
  pub few : (p : Position) → In t p → ahead p ≤ length t
  pub nearer : (p q : Position) → In t p → step p ≡ To q → In t q × (ahead q < ahead p)

module _ {t : List ℕ} {step : Position → Step} (way : OneWay t step) (test : Position → Bool) where
  -- counters above the places ahead
  same_end : (n m : ℕ) (p : Position) → In t p → way.ahead p < n → way.ahead p < m → walk test step n p ≡ walk test step m p
  unfolding walk
  same_end zero m p i h l = absurd (omega arith)
  same_end (suc n) zero p i h l = absurd (omega arith)
  same_end (suc n) (suc m) p i h l = go (test p) (step p) (λ q e.
      let by_nearer = way.nearer p q i e in
      same_end n m q by_nearer.0 (omega (arith, by_nearer.1)) (omega (arith, by_nearer.1)))
    where
      go : (b : Bool) (w : Step) → ((q : Position) → w ≡ To q → walk test step n q ≡ walk test step m q) →
          cond b (further w (walk test step n) (Stuck p)) (Onto p) ≡ cond b (further w (walk test step m) (Stuck p)) (Onto p)
      go true (To q) ih = ih q refl
      go true Nowhere ih = refl
      go false w ih = refl

  pub counter_unused : (n : ℕ) (p : Position) → In t p → length t < n → walk test step n p ≡ walk test step (length t + 1) p
  counter_unused n p i h = same_end n (length t + 1) p i (omega (arith, way.few p i)) (omega (arith, way.few p i))

  -- the loop of the source: a test, a step, and the loop again
  pub loop_turn : (p : Position) → In t p →
      walk test step (length t + 1) p ≡ cond (test p) (further (step p) (walk test step (length t + 1)) (Stuck p)) (Onto p)
  unfolding walk
  loop_turn p i = sym (counter_unused (suc (length t + 1)) p i (omega arith))

module _ (t : List ℕ) where
  -- the offset of a place grows with each step on, and falls with each step back
  abbrev offset : Position → ℕ
  offset p = row_start t p.row + p.col

  offset_few : (p : Position) → In t p → offset p ≤ length t
  offset_few p i = omega (arith, row_fits t p.row i.in_row, i.in_col)

  abbrev Later : Position → Step → Type 0
  Later p (To q) = offset p < offset q
  Later p Nowhere = Unit {0}

  abbrev Sooner : Position → Step → Type 0
  Sooner p (To q) = offset q < offset p
  Sooner p Nowhere = Unit {0}

  module _ (p : Position) (i : In t p) where
    forward_later : Later p (step_forward t p)
    unfolding step_forward next_row
    forward_later = go (ltb (p.col + 1) (row_len t p.row)) (ltb (p.row + 1) (content_rows t))
      where
        go : (a b : Bool) → Later p (cond a (To (position p.row (p.col + 1))) (cond b (To (position (p.row + 1) 0)) Nowhere))
        go true b = omega arith
        go false true = omega (arith, next_start_lem t p.row i.in_row, i.in_col)
        go false false = tt

    dec_sooner : Sooner p (dec t p)
    unfolding dec
    dec_sooner = go (ltb 0 p.col) (ltb 0 p.row) refl refl
      where
        go : (a b : Bool) → ltb 0 p.col ≡ a → ltb 0 p.row ≡ b →
            Sooner p (cond a (To (position p.row (p.col - 1))) (cond b (To (position (p.row - 1) (row_len t (p.row - 1)))) Nowhere))
        go true b e f = omega (arith, ltb-true 0 p.col e)
        go false true e f = omega (arith, start_after t p.row (ltb-true 0 p.row f) i.in_row)
        go false false e f = tt

  pub forward_way : OneWay t (step_forward t)
  forward_way = record {
    ahead = λ p. length t - offset p;
    few = λ p i. omega arith;
    nearer = λ p q i e.
        let inside : In t q = rw e at (forward_in t p i) in
        let offset_below : offset p < offset q = rw e at (forward_later p i) in
        (inside, omega (arith, offset_below, offset_few q inside));
  }

  pub dec_way : OneWay t (dec t)
  dec_way = record {
    ahead = offset;
    few = offset_few;
    nearer = λ p q i e.
        let inside : In t q = rw e at (dec_in t p i) in
        let offset_below : offset q < offset p = rw e at (dec_sooner p i) in
        (inside, offset_below);
  }

  -- the four loops: any counter above the text's length
  module _ (kind : ℕ → ℕ) (n : ℕ) (p : Position) (i : In t p) (h : length t < n) where
    pub skip_any : (a b : ℕ) → walk (of_kinds t kind a b) (step_forward t) n p ≡ skip t kind a b p
    skip_any a b = counter_unused forward_way _ n p i h

    pub leave_any : (k : ℕ) → walk (in_row t kind k p.row) (step_forward t) n p ≡ leave t kind k p
    leave_any k = counter_unused forward_way _ n p i h

    pub run_any : (k : ℕ) → walk (goes_on t kind k) (step_forward t) n p ≡ run t kind k p
    run_any k = counter_unused forward_way _ n p i h

    pub back_any : (k : ℕ) → walk (of_class t kind k) (dec t) n p ≡ back t kind k p
    back_any k = counter_unused dec_way _ n p i h
