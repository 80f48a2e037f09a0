-- The cost of a walk by words: the segment after a break reaches past all that was walked to find it, so no character is walked more than
-- twice. What stands between the break and the end of what fitted has no white space, and fits again. Assumes nothing.
use Rattle.lists.proofs.Kit.{◌≡◌, sym, ap, subst, ◌∙◌, List, [], ◌∷◌, ◌++◌, Bool, true, true≢false, ⊎_elim, ℕ, suc, ◌+◌, ◌-◌, ◌≤◌, ◌<◌, le-max_right, le_of_lt}
use Rattle.lists.proofs.Kit.{dec_le, ℕ_discrete, arith, length, get_or, take, drop, length-drop, take-add, get_or-drop}
use Rattle.row_cells.specs.Cells.{fits}
use Rattle.row_segment.specs.Segments.{after_white, char_segment, first_segment}
use Rattle.row_cells.specs.Offsets.{cells_in}
use Rattle.row_cells.proofs.Fits.{cells_none, cells_more, cells_rises, fits_fills}
use Rattle.row_segment.proofs.White.{white_last}
use Rattle.row_segment.proofs.First.{char_is, char_alone, first_cases}

module _ (w : ℕ → ℕ) where
  cells_append : (a b : List ℕ) → cells_in w (a ++ b) ≡ cells_in w a + cells_in w b
  cells_append [] b = omega (arith, cells_none w)
  cells_append (x ∷ a) b = omega (arith, cells_more w x a, cells_more w x (a ++ b), cells_append a b)

  -- what fits fits again behind its first k characters
  fits_again : (width : ℕ) (row : List ℕ) (k : ℕ) → k ≤ fits w width row → fits w width row ≤ k + fits w width (drop k row)
  fits_again width row k h = go (dec_le n (k + m))
    where
      n : ℕ
      n = fits w width row

      m : ℕ
      m = fits w width (drop k row)

      all : cells_in w (take k row) + cells_in w (take (n - k) (drop k row)) ≤ width
      all =
          let sum_is : k + (n - k) ≡ n = omega arith in
          let same = ap (λ (l : List ℕ). cells_in w l) (sym (take-add k (n - k) row) ∙ ap (λ (j : ℕ). take j row) sum_is) in
          omega (arith, cells_append (take k row) (take (n - k) (drop k row)), same, (fits_fills w width row).inside)

      go : Dec (n ≤ k + m) → n ≤ k + m
      go (yes l) = l
      go (no l) =
          let by_length_drop = length-drop k row in
          let full = (fits_fills w width (drop k row)).full (omega (arith, (fits_fills w width row).within)) in
          absurd (omega (arith, all, full, cells_rises w (drop k row) (suc m) (n - k) (omega arith)))

module _ (w : ℕ → ℕ) (white : ℕ → Bool) (word : Bool) (width : ℕ) (row : List ℕ) where
  -- white space behind the break, and before the end of what fitted, there is none
  no_white_lem : (i k l : ℕ) → i ≤ length row → k ≡ after_white white row i → 0 < l → white (get_or (drop k row) (l - 1) 0) ≡ true → i ≤ k + l
  no_white_lem i k l h e p t = go (dec_le i (k + l))
    where
      go : Dec (i ≤ k + l) → i ≤ k + l
      go (yes d) = d
      go (no d) =
          let none = (white_last white row i h).none (k + (l - 1)) (omega arith) (omega arith) in
          absurd (true≢false (sym t ∙ ap white (get_or-drop k row (l - 1) 0) ∙ none))

  pub walked_twice :
      let first_segment_lem = first_segment w white word width row in
      char_segment w width row ≤ first_segment_lem + first_segment w white word width (drop first_segment_lem row)
  walked_twice = ⊎_elim (λ e. omega arith) (λ m. go m (ℕ_discrete (fits w width row) 0)) (first_cases w white word width row)
    where
      i : ℕ
      i = char_segment w width row

      k : ℕ
      k = first_segment w white word width row

      rest : List ℕ
      rest = drop k row

      l : ℕ
      l = first_segment w white word width rest

      behind : (char_segment w width rest < length rest) × (0 < l) × (l ≡ after_white white rest (char_segment w width rest)) → white (get_or rest (l - 1) 0) ≡ true
      behind n =
          let last = white_last white rest (char_segment w width rest) (le_of_lt n.0) in
          subst (λ (j : ℕ). white (get_or rest (j - 1) 0) ≡ true) (sym n.2) (last.behind (omega (arith, n.1, n.2)))

      go : (i < length row) × (0 < k) × (k ≡ after_white white row i) → Dec (fits w width row ≡ 0) → i ≤ k + l
      go m (yes z) = omega (arith, m.1, char_alone w width row z)
      go m (no z) =
          let by_char_is = char_is w width row (omega arith) in
          let by_white_last = (white_last white row i (le_of_lt m.0)).within in
          let again = fits_again w width row k (omega (arith, m.2)) in
          ⊎_elim (λ e. omega (arith, again, le-max_right 1 (fits w width rest))) (λ n. no_white_lem i k l (le_of_lt m.0) m.2 n.1 (behind n))
          (first_cases w white word width rest)
