-- The walks of the two engines, one by one: over kinds, back over a kind, to the end of a run, and out of it. Each cites the one law, and `walks`.
-- Assumes nothing.
use Rattle.lists.proofs.Kit.{◌≡◌, refl, ap, sym, ◌∙◌, List, Bool, true, false, cond, ◌&&◌, ◌||◌, not, ℕ, zero, suc, ◌+◌, ◌-◌, ◌≤◌, ◌<◌, dec_lt, arith, length, Option, Some, None}
use Rattle.lists.proofs.Kit.{eqb, ltb, lt-ltb}
use Rattle.text.specs.Offsets
use Rattle.word_kinds.specs.Places
use Rattle.word_loops.specs.Walks as first
use Rattle.word_loops.proofs.Counters.{forward_way, dec_way}
use Rattle.word_edges.specs.Words
use Rattle.word_places.specs.Places.{is_end, is_empty, kind, soft, text_end, forward, backward}
use Rattle.word_places.specs.Walks.{over, back}
use Rattle.word_places.proofs.Walking.{forward_on, forward_over, forward_next}
use Rattle.word_class_rows.specs.Rows.{row_of}
use Rattle.word_class_rows.proofs.Counting.{row_end_next, row_char_next}
use Rattle.word_class_laws.specs.Determines.{Determines, pos, named, went}
use Rattle.word_class_laws.proofs.Points.{named_same}
use Rattle.word_class_laws.proofs.Walks.{Halts, Steps, walks}

pub clash : {A : Type 0} {b : Bool} → b ≡ true → b ≡ false → A
clash e f = let never : ◌≡◌ {A = ℕ} 0 1 = cc (sym e ∙ f) in absurd (omega arith)

-- the row's end as a space, by either numbers
soften : (k : ℕ) → Places.soft (named k) ≡ named (cond (eqb k 4) 2 k)
unfolding named
soften k = rw (named_same k 4) (go (eqb k 4))
  where
    go : (b : Bool) → cond b 0 (named k) ≡ named (cond b 2 k)
    go true = refl
    go false = refl

module _ {t : List ℕ} {tell : ℕ → ℕ} {c : List ℕ} {big : Bool} (d : Determines t tell c big) where
  pub end_is : text_end c ≡ length t
  end_is = omega (arith, d.long)

  abbrev pub Inside : ℕ → Type 0
  Inside i = i ≤ length t

  pub kind_test : (i : ℕ) → i ≤ length t → (k : ℕ) → eqb (Places.kind_at t tell (pos t i)) (named k) ≡ eqb (kind c big i) k
  kind_test i h k = ap (λ (x : ℕ). eqb x (named k)) (d.kinds i h) ∙ named_same (kind c big i) k

  pub class_of : (i : ℕ) → i ≤ length t → Places.cls t tell (pos t i) ≡ named (soft c big i)
  class_of i h = ap Places.soft (d.kinds i h) ∙ soften (kind c big i)

  -- a place that ends no row is before the text's end
  pub before_end : (i : ℕ) → i ≤ length t → is_end c i ≡ false → i < length t
  before_end i h e = go (dec_lt i (length t))
    where
      go : Dec (i < length t) → i < length t
      go (yes l) = l
      go (no m) = let i_is : i ≡ length t = omega arith in clash (rw i_is d.last) e

  -- a step on
  forward_steps : (i : ℕ) → i ≤ length t → Steps t Inside (λ j. length t - j) (Places.step_forward t) i (forward c i)
  forward_steps i h = go (forward c i) refl (d.on i h)
    where
      go : (r : Option ℕ) → forward c i ≡ r → Places.step_forward t (pos t i) ≡ went t r → Steps t Inside (λ j. length t - j) (Places.step_forward t) i r
      go (Some j) e w = let by_forward_on =
          forward_on c i j e in (w, omega (arith, by_forward_on.1, end_is), omega (arith, by_forward_on.0, by_forward_on.1, end_is))
      go None e w = w

  -- over kinds
  pub over_same : (a b i : ℕ) → i ≤ length t →
      Halts t Inside (λ j. eqb (kind c big j) a || eqb (kind c big j) b) (over c big a b i) (first.skip t tell (named a) (named b) (pos t i))
  over_same a b i h = walks t Inside (λ j. eqb (kind c big j) a || eqb (kind c big j) b) (λ j. length t - j) (Places.step_forward t) (forward_way t)
      (λ q. eqb (Places.kind_at t tell q) (named a) || eqb (Places.kind_at t tell q) (named b)) (forward c) (λ j o. o)
      (λ j o. rw (kind_test j o a, kind_test j o b)) (λ j o e. forward_steps j o) (length c + 1) i h (omega (arith, d.long))

  -- back over a kind
  back_steps : (i : ℕ) → i ≤ length t → Steps t Inside (λ j. j) (Places.dec t) i (backward i)
  back_steps zero h = d.back zero h
  back_steps (suc i) h = (d.back (suc i) h, omega arith, omega arith)

  pub back_same : (k i : ℕ) → i ≤ length t →
      Halts t Inside (λ j. eqb (soft c big j) k && not (is_empty c j)) (back c big k i) (first.back t tell (named k) (pos t i))
  back_same k i h = walks t Inside (λ j. eqb (soft c big j) k && not (is_empty c j)) (λ j. j) (Places.dec t) (dec_way t)
      (λ q. eqb (Places.cls t tell q) (named k) && not (Places.on_empty_row t q)) backward (λ j o. o)
      (λ j o. rw (class_of j o, named_same (soft c big j) k, d.empties j o)) (λ j o e. back_steps j o) (i + 1) i h (omega arith)

  -- a run: the kind k, which is no row end's
  module _ (k : ℕ) (real : eqb k 4 ≡ false) where
    pub record InRun (j : ℕ) : Type 0 where
      pub inside : j ≤ length t
      pub is_kind : kind c big j ≡ k

    pub run_char : (j : ℕ) → InRun j → is_end c j ≡ false
    run_char j o = sym (d.ends j o.inside) ∙ ap (λ (x : ℕ). eqb x 4) o.is_kind ∙ real

    -- the next place of the row, or the next row's first
    pub next_char : (j : ℕ) → j ≤ length t → is_end c j ≡ false → is_end c (j + 1) ≡ false → forward c j ≡ Some (j + 1)
    next_char j h e f =
        let by_before_end = before_end j h e in
        let by_before_end_f = before_end (j + 1) (omega arith) f in
        forward_next c j (rw (e, f)) ∙ rw (lt-ltb (j + 1) (text_end c) (omega (arith, end_is)))

    pub same_row : (j : ℕ) → j ≤ length t → is_end c j ≡ false → Offsets.row_of t (j + 1) ≡ Offsets.row_of t j
    same_row j h e =
        let by_before_end = before_end j h e in
        d.row (j + 1) (omega arith) ∙ row_char_next c j (omega (arith, d.long)) e ∙ sym (d.row j h)

    pub next_row_lem : (j q : ℕ) → j ≤ length t → is_end c j ≡ false → is_end c (j + 1) ≡ true → forward c j ≡ Some q → Offsets.row_of t q ≡ Offsets.row_of t j + 1
    next_row_lem j q h e f w =
        let by_before_end = before_end j h e in
        let on = forward_on c j q w in
        let two : j + 1 + 1 ≡ j + 2 = omega arith in
        let forward_is : forward c j ≡ cond (ltb (j + 2) (text_end c)) (Some (j + 2)) None = forward_over c j (rw (e, f)) in
        let row_is : row_of c (j + 2) ≡ row_of c (j + 1) + 1 = rw two at (row_end_next c (j + 1) (omega (arith, d.long)) f) in
        go (ltb (j + 2) (text_end c)) (sym w ∙ forward_is) on row_is (row_char_next c j (omega (arith, d.long)) e)
      where
        go : (b : Bool) → Some q ≡ cond b (Some (j + 2)) None → (j < q) × (q < text_end c) → row_of c (j + 2) ≡ row_of c (j + 1) + 1 → row_of c (j + 1) ≡ row_of c j →
            Offsets.row_of t q ≡ Offsets.row_of t j + 1
        go true v on r s = let q_is : q ≡ j + 2 = cc in omega (arith, d.row q (omega (arith, on.1, end_is)), ap (row_of c) q_is, d.row j h)
        go false v on r s = let never : ◌≡◌ {A = ℕ} 0 1 = cc in absurd (omega arith)
