-- Where two width functions agree on a row, it is broken at the same places, and cells and columns of a segment are the same. Assumes nothing.
use Rattle.lists.proofs.Kit.{◌≡◌, refl, ap, List, [], ◌∷◌, Bool, cond, ℕ, zero, suc, ◌+◌, ◌-◌, length, drop, leb}
use Rattle.row_cells.specs.Cells.{cells_of, fits}
use Rattle.row_cells.specs.Offsets.{part, cells_in, char_at_offset, offset_of_char}
use Rattle.row_segment.specs.Segments.{first_segment}
use Rattle.row_wrap.specs.declared.Wrap.{Wrap}
use Rattle.row_wrap.specs.Modes.{is_word, is_whole, segments_of}
use Rattle.row_wrap.specs.Segments.{segments_from}
use Rattle.width_laws.proofs.Agree.{Agree, agree_drop, agree_take}

module _ (w v : ℕ → ℕ) where
  fits_same : (room : ℕ) (row : List ℕ) → Agree w v row → fits w room row ≡ fits v room row
  unfolding fits
  fits_same room [] a = refl
  fits_same room (x ∷ row) a = rw a.0 (ap (λ (n : ℕ). cond (leb (cells_of v x) room) (suc n) 0) (fits_same (room - cells_of v x) row a.1))

  cells_same : (row : List ℕ) → Agree w v row → cells_in w row ≡ cells_in v row
  unfolding cells_in
  cells_same [] a = refl
  cells_same (x ∷ row) a = rw a.0 (ap (λ (n : ℕ). cells_of v x + n) (cells_same row a.1))

  first_same : (white : ℕ → Bool) (word : Bool) (width : ℕ) (row : List ℕ) → Agree w v row →
      first_segment w white word width row ≡ first_segment v white word width row
  unfolding first_segment
  first_same white word width row a = rw (fits_same width row a)

  from_same : (white : ℕ → Bool) (word : Bool) (width left i : ℕ) (row : List ℕ) → Agree w v row →
      segments_from w white word width left i row ≡ segments_from v white word width left i row
  unfolding segments_from
  from_same white word width left i [] a = refl
  from_same white word width (suc left) i (x ∷ row) a = from_same white word width left (suc i) row a.1
  from_same white word width zero i (x ∷ row) a =
      let first_segment_lem = first_segment v white word width (x ∷ row) in
      rw (first_same white word width (x ∷ row) a)
      (ap (λ (l : List ℕ). i ∷ (i + first_segment_lem) ∷ l) (from_same white word width (first_segment_lem - 1) (suc i) row a.1))

  pub segments_same : (white : ℕ → Bool) (mode : Wrap) (width : ℕ) (row : List ℕ) → Agree w v row →
      segments_of w white mode width row ≡ segments_of v white mode width row
  unfolding segments_of
  segments_same white mode width row a =
      ap (λ (l : List ℕ). cond (is_whole mode width (length row)) (0 ∷ length row ∷ []) l) (from_same white (is_word mode) width 0 0 row a)

  agree_part : (row : List ℕ) (start end : ℕ) → Agree w v row → Agree w v (part row start end)
  agree_part row start end a = agree_take w v (end - start) (drop start row) (agree_drop w v start row a)

  pub char_at_same : (row : List ℕ) (start end offset : ℕ) → Agree w v row → char_at_offset w row start end offset ≡ char_at_offset v row start end offset
  char_at_same row start end offset a = rw (fits_same offset (part row start end) (agree_part row start end a))

  pub cells_at_same : (row : List ℕ) (start col : ℕ) → Agree w v row → offset_of_char w row start col ≡ offset_of_char v row start col
  cells_at_same row start col a = cells_same (part row start col) (agree_part row start col a)
