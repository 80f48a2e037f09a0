-- The first segment of a row, over any width function w and test of white space. From `wrap.rs` and document 01, build order 3.
-- Cited by the contracts of `src/segment.rt`. Definitions only; the laws are in `proofs/`. Assumes nothing.
use Rattle.std.specs.Prelude.{ℕ, zero, suc, ◌≤◌, ◌<◌, max, ◌≡◌, List, [], ◌∷◌, Bool, cond, ◌&&◌, length, eqb, ltb}
use Rattle.row_cells.specs.Cells.{fits}

-- the place after the last white space among the first n characters, or 0 where there is none
unfoldable pub after_white : (ℕ → Bool) → List ℕ → ℕ → ℕ
after_white white [] n = 0
after_white white (x ∷ row) zero = 0
after_white white (x ∷ row) (suc n) =
    let later = after_white white row n in cond (eqb later 0) (cond (white x) 1 0) (suc later)

-- the length of the first segment by characters: one that is wider than the width is taken alone
abbrev pub char_segment : (ℕ → ℕ) → ℕ → List ℕ → ℕ
char_segment w width row = max 1 (fits w width row)

-- and by words: it ends after its last white space, unless the row ends with it or there is none
unfoldable pub first_segment : (ℕ → ℕ) → (ℕ → Bool) → Bool → ℕ → List ℕ → ℕ
first_segment w white word width row =
    let i = char_segment w width row in
    let k = after_white white row i in
    cond (word && (ltb i (length row) && ltb 0 k)) k i

-- r is the length n of a segment that the row begins with
pub record Begins (row : List ℕ) (n r : ℕ) : Type 0 where
  pub count : r ≡ n
  pub some : 0 < r
  pub inside : r ≤ length row
