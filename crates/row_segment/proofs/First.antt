-- The first segment of a row, over any width function w and test of white space. Assumes nothing.
use Rattle.lists.proofs.Kit.{◌≡◌, refl, List, Bool, true, false, cond, ◌&&◌, ◌⊎◌, inl, inr, ⊎_elim, ℕ, ◌≤◌, ◌<◌, max-eq_right, le-max_left, max-le, le_of_lt}
use Rattle.lists.proofs.Kit.{dec_lt, ℕ_discrete, arith, length, take, ltb, le-ltb, lt-ltb}
use Rattle.row_cells.specs.Cells.{fits}
use Rattle.row_segment.specs.Segments.{after_white, char_segment, first_segment}
use Rattle.row_cells.specs.Offsets.{cells_in}
use Rattle.row_cells.proofs.Fits.{fits_fills, cells_rises}
use Rattle.row_segment.proofs.White.{white_last}

module _ (w : ℕ → ℕ) (width : ℕ) (row : List ℕ) where
  -- what fits, or one that does not
  pub char_is : 0 < fits w width row → char_segment w width row ≡ fits w width row
  char_is h = max-eq_right h

  pub char_alone : fits w width row ≡ 0 → char_segment w width row ≡ 1
  char_alone e = rw e

  pub char_pos : 0 < char_segment w width row
  char_pos = le-max_left 1 (fits w width row)

  pub char_within : 0 < length row → char_segment w width row ≤ length row
  char_within h = max-le h (fits_fills w width row).within

module _ (w : ℕ → ℕ) (white : ℕ → Bool) (word : Bool) (width : ℕ) (row : List ℕ) where
  -- by characters, or where the row ends with it, or with no white space in it
  pub first_char : word ≡ false → first_segment w white word width row ≡ char_segment w width row
  unfolding first_segment
  first_char e = rw e

  pub first_end : length row ≤ char_segment w width row → first_segment w white word width row ≡ char_segment w width row
  unfolding first_segment
  first_end h = rw (le-ltb (char_segment w width row) (length row) h) (go word)
    where
      go : (b : Bool) → cond (b && false) (after_white white row (char_segment w width row)) (char_segment w width row) ≡ char_segment w width row
      go true = refl
      go false = refl

  pub first_none : after_white white row (char_segment w width row) ≡ 0 → first_segment w white word width row ≡ char_segment w width row
  unfolding first_segment
  first_none e = rw e (go word (ltb (char_segment w width row) (length row)))
    where
      go : (b d : Bool) → cond (b && (d && false)) 0 (char_segment w width row) ≡ char_segment w width row
      go true true = refl
      go true false = refl
      go false d = refl

  -- by words, after the last white space
  pub first_word : word ≡ true → char_segment w width row < length row → 0 < after_white white row (char_segment w width row) →
      first_segment w white word width row ≡ after_white white row (char_segment w width row)
  unfolding first_segment
  first_word e h p = rw (e, lt-ltb (char_segment w width row) (length row) h, lt-ltb 0 (after_white white row (char_segment w width row)) p)

  -- one of the two it is
  pub first_cases :
      let i = char_segment w width row in
      let first_segment_lem = first_segment w white word width row in
      (first_segment_lem ≡ i) ⊎ ((i < length row) × (0 < first_segment_lem) × (first_segment_lem ≡ after_white white row i))
  first_cases = go word refl (dec_lt i (length row)) (dec_lt 0 (after_white white row i))
    where
      i : ℕ
      i = char_segment w width row

      k : ℕ
      k = first_segment w white word width row

      go : (b : Bool) → word ≡ b → Dec (i < length row) → Dec (0 < after_white white row i) →
          (k ≡ i) ⊎ ((i < length row) × (0 < k) × (k ≡ after_white white row i))
      go false e d p = inl (first_char e)
      go true e (no d) p = inl (first_end (omega arith))
      go true e (yes d) (no p) = inl (first_none (omega arith))
      go true e (yes d) (yes p) = let is = first_word e d p in inr (d, omega arith, is)

  -- it is not empty, no longer than what a break by characters takes, and fits the width or is one character
  first_most : let first_segment_lem = first_segment w white word width row in (0 < first_segment_lem) × (first_segment_lem ≤ char_segment w width row)
  first_most = ⊎_elim (λ e. (omega (arith, char_pos w width row), omega arith))
      (λ m. (m.1, omega (arith, m.2, (white_last white row (char_segment w width row) (le_of_lt m.0)).within))) first_cases

  pub first_pos : 0 < first_segment w white word width row
  first_pos = first_most.0

  pub first_within : 0 < length row → first_segment w white word width row ≤ length row
  first_within h = omega (arith, first_most.1, char_within w width row h)

  -- it fits the width, or is one character
  pub first_fits : let first_segment_lem = first_segment w white word width row in (cells_in w (take first_segment_lem row) ≤ width) ⊎ (first_segment_lem ≡ 1)
  first_fits = go (ℕ_discrete (fits w width row) 0)
    where
      k : ℕ
      k = first_segment w white word width row

      go : Dec (fits w width row ≡ 0) → (cells_in w (take k row) ≤ width) ⊎ (k ≡ 1)
      go (yes e) = inr (omega (arith, first_most.0, first_most.1, char_alone w width row e))
      go (no n) =
          let by_char_is = char_is w width row (omega arith) in
          inl (omega (arith, cells_rises w row k (fits w width row) (omega (arith, first_most.1)), (fits_fills w width row).inside))
