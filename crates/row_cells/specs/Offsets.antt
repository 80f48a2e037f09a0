-- Cells within a segment, and the segment of a column, over any width function w. From `wrap.rs`.
-- Cited by the contracts of `src/`. Definitions only; the laws are in `proofs/`. Assumes nothing.
use Rattle.std.specs.Prelude.{ℕ, suc, ◌+◌, ◌-◌, ◌/◌, min, List, [], ◌∷◌, cond, ◌&&◌, length, take, drop, leb, ltb}
use Rattle.row_cells.specs.Cells.{cells_of, fits}

-- the characters of the row from start on and before end; either may be past the row's end
abbrev pub part : List ℕ → ℕ → ℕ → List ℕ
part row start end = take (end - start) (drop start row)

-- the cells of all of them
unfoldable pub cells_in : (ℕ → ℕ) → List ℕ → ℕ
cells_in w [] = 0
cells_in w (x ∷ row) = cells_of w x + cells_in w row

-- the character of a segment that holds the cell at this offset from the segment's start, or the segment's end as it is given
abbrev pub char_at_offset : (ℕ → ℕ) → List ℕ → ℕ → ℕ → ℕ → ℕ
char_at_offset w row start end offset =
    let k = fits w offset (part row start end) in
    cond (ltb k (length (part row start end))) (start + k) end

-- the cells before column col of a segment that begins at start, or 0 for a column before it
abbrev pub offset_of_char : (ℕ → ℕ) → List ℕ → ℕ → ℕ → ℕ
offset_of_char w row start col = cells_in w (part row start col)

-- how many pairs start, end stand before the first that holds col
unfoldable pub pairs_before : ℕ → List ℕ → ℕ
pairs_before col [] = 0
pairs_before col (s ∷ []) = 0
pairs_before col (s ∷ e ∷ rest) = cond (leb s col && ltb col e) 0 (suc (pairs_before col rest))

-- the index of the first that holds col, else of the last one; 0 where there is none
abbrev pub segment_index : List ℕ → ℕ → ℕ
segment_index segments col = min (pairs_before col segments) (length segments / 2 - 1)
