-- Laws of the rows of a list. Assumes nothing.
use Rattle.lists.proofs.Kit.{◌≡◌, sym, List, [], ◌∷◌, ℕ, suc, ◌+◌, ◌-◌, ◌≤◌, ◌<◌, ℕ_discrete, arith, length, take, drop, length-drop, drop-drop, eq-eqb, ne_eqb}
use Rattle.lists.specs.Lists.{on_first}
use Rattle.lists.proofs.Lists.{drop_at}
use Rattle.replay_rows.specs.Rows.{row_length, lines}

-- the first row of a list, and the rows after it
abbrev Split : List ℕ → Type 0
Split s = lines s ≡ take (row_length s) s ∷ lines (drop (row_length s) s)

lines_first : (x : ℕ) (s : List ℕ) → Split (x ∷ s)
unfolding lines row_length on_first
lines_first x [] = go (ℕ_discrete x 10)
  where
    go : Dec (x ≡ 10) → Split (x ∷ [])
    go (yes e) = rw (eq-eqb x 10 e)
    go (no n) = rw (ne_eqb x 10 n)
lines_first x (y ∷ s) = go (ℕ_discrete x 10) (lines_first y s)
  where
    go : Dec (x ≡ 10) → Split (y ∷ s) → Split (x ∷ y ∷ s)
    go (yes e) ih = rw (eq-eqb x 10 e)
    go (no n) ih = rw (ne_eqb x 10 n, ih)

row_length_most : (s : List ℕ) → row_length s ≤ length s
unfolding row_length
row_length_most [] = omega arith
row_length_most (x ∷ s) = go (ℕ_discrete x 10) (row_length_most s)
  where
    go : Dec (x ≡ 10) → row_length s ≤ length s → row_length (x ∷ s) ≤ suc (length s)
    go (yes e) ih = rw (eq-eqb x 10 e) (omega arith)
    go (no n) ih = rw (ne_eqb x 10 n) (omega arith)

row_length_least : (x : ℕ) (s : List ℕ) → 1 ≤ row_length (x ∷ s)
unfolding row_length
row_length_least x s = go (ℕ_discrete x 10)
  where
    go : Dec (x ≡ 10) → 1 ≤ row_length (x ∷ s)
    go (yes e) = rw (eq-eqb x 10 e) (omega arith)
    go (no n) = rw (ne_eqb x 10 n) (omega arith)

-- the row that begins at `at` and ends before e
module _ (s : List ℕ) (at e : ℕ) (h : at < length s) (q : e ≡ at + row_length (drop at s)) where
  pub row_within : (at < e) × (e ≤ length s)
  row_within =
      let row_length_some : 1 ≤ row_length (drop at s) = rw (drop_at s at h) (row_length_least _ _) in
      (omega (arith, q, row_length_some), omega (arith, q, row_length_most (drop at s), length-drop at s))

  pub lines_step : lines (drop at s) ≡ take (e - at) (drop at s) ∷ lines (drop e s)
  lines_step =
      let difference_is : e - at ≡ row_length (drop at s) = omega arith in
      let rest_is : drop e s ≡ drop (row_length (drop at s)) (drop at s) = rw q (sym (drop-drop (row_length (drop at s)) at s)) in
      rw (difference_is, rest_is) (rw (drop_at s at h) (lines_first _ _))
