-- From a place of the text every step and every walk of the definitions leads to a place of the text. Assumes nothing.
use Rattle.lists.proofs.Kit.{◌≡◌, refl, List, Bool, true, false, cond, ℕ, zero, suc, ◌+◌, ◌-◌, ◌≤◌, ◌<◌, arith, length, ltb, ltb-true}
use Rattle.text.specs.Text.{row_count, row_len, content_rows, position}
use Rattle.text.specs.declared.Position.{Position}
use Rattle.text.proofs.Content.{content_near}
use Rattle.word_kinds.specs.Places.{Step, To, Nowhere, next_row, step_forward, inc, dec, end_of_buffer, further}
use Rattle.word_loops.specs.Walks.{Halt, Onto, Stuck, walk, skip, leave, run, back}

-- a place of the text; and each answer that has one
pub record In (t : List ℕ) (p : Position) : Type 0 where
  pub in_row : p.row < row_count t
  pub in_col : p.col ≤ row_len t p.row

abbrev pub StepsTo : List ℕ → Step → Type 0
StepsTo t (To q) = In t q
StepsTo t Nowhere = Unit {0}

abbrev pub Halts : List ℕ → Halt → Type 0
Halts t (Onto q) = In t q
Halts t (Stuck q) = In t q

module _ (t : List ℕ) where
  -- steps
  next_in : (r : ℕ) → StepsTo t (next_row t r)
  unfolding next_row
  next_in r = go (ltb (r + 1) (content_rows t)) refl
    where
      go : (b : Bool) → ltb (r + 1) (content_rows t) ≡ b → StepsTo t (cond b (To (position (r + 1) 0)) Nowhere)
      go true e = record { in_row = omega (arith, ltb-true (r + 1) (content_rows t) e, content_near t); in_col = omega arith }
      go false e = tt

  pub end_in : In t (end_of_buffer t)
  unfolding end_of_buffer
  end_in = record { in_row = omega (arith, content_near t); in_col = omega arith }

  module _ (p : Position) (i : In t p) where
    pub forward_in : StepsTo t (step_forward t p)
    unfolding step_forward
    forward_in = go (ltb (p.col + 1) (row_len t p.row)) refl
      where
        go : (b : Bool) → ltb (p.col + 1) (row_len t p.row) ≡ b → StepsTo t (cond b (To (position p.row (p.col + 1))) (next_row t p.row))
        go true e = record { in_row = i.in_row; in_col = omega (arith, ltb-true (p.col + 1) (row_len t p.row) e) }
        go false e = next_in p.row

    pub inc_in : StepsTo t (inc t p)
    unfolding inc
    inc_in = go (ltb p.col (row_len t p.row)) refl
      where
        go : (b : Bool) → ltb p.col (row_len t p.row) ≡ b → StepsTo t (cond b (To (position p.row (p.col + 1))) (next_row t p.row))
        go true e = record { in_row = i.in_row; in_col = omega (arith, ltb-true p.col (row_len t p.row) e) }
        go false e = next_in p.row

    pub dec_in : StepsTo t (dec t p)
    unfolding dec
    dec_in = go (ltb 0 p.col) (ltb 0 p.row)
      where
        go : (a b : Bool) → StepsTo t (cond a (To (position p.row (p.col - 1))) (cond b (To (position (p.row - 1) (row_len t (p.row - 1)))) Nowhere))
        go true b = record { in_row = i.in_row; in_col = omega (arith, i.in_col) }
        go false true = record { in_row = omega (arith, i.in_row); in_col = omega arith }
        go false false = tt

  -- walks
  pub walk_in : (test : Position → Bool) (step : Position → Step) → ((p : Position) → In t p → StepsTo t (step p)) → (n : ℕ) (p : Position) → In t p →
      Halts t (walk test step n p)
  unfolding walk
  walk_in test step h zero p i = i
  walk_in test step h (suc n) p i = go (test p) (step p) (h p i) (λ q j. walk_in test step h n q j)
    where
      go : (b : Bool) (w : Step) → StepsTo t w → ((q : Position) → In t q → Halts t (walk test step n q)) →
          Halts t (cond b (further w (walk test step n) (Stuck p)) (Onto p))
      go true (To q) j ih = ih q j
      go true Nowhere j ih = i
      go false w j ih = i

  -- on from a step, or else
  pub further_in : (w : Step) (f : Position → Step) → StepsTo t w → ((q : Position) → In t q → StepsTo t (f q)) → StepsTo t (further w f Nowhere)
  further_in (To q) f i h = h q i
  further_in Nowhere f i h = tt

  module _ (kind : ℕ → ℕ) where
    pub skip_in : (a b : ℕ) (p : Position) → In t p → Halts t (skip t kind a b p)
    skip_in a b p i = walk_in _ (step_forward t) forward_in (length t + 1) p i

    pub back_in : (k : ℕ) (p : Position) → In t p → Halts t (back t kind k p)
    back_in k p i = walk_in _ (dec t) dec_in (length t + 1) p i

    pub leave_in : (k : ℕ) (p : Position) → In t p → Halts t (leave t kind k p)
    leave_in k p i = walk_in _ (step_forward t) forward_in (length t + 1) p i

    pub run_in : (k : ℕ) (p : Position) → In t p → Halts t (run t kind k p)
    run_in k p i = walk_in _ (step_forward t) forward_in (length t + 1) p i
