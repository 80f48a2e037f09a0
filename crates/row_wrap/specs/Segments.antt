-- Where a row is broken into segments, over any width function w and test of white space. From `wrap.rs` and document 01, build order 3.
-- Cited by the contracts of `src/`. Definitions only; the laws are in `proofs/`. Assumes nothing.
use Rattle.std.specs.Prelude.{ℕ, zero, suc, ◌+◌, ◌-◌, List, [], ◌∷◌, Bool}
use Rattle.row_segment.specs.Segments.{first_segment}

-- start, end, start, end and so on: of a row that begins with character i, while `left` characters of the segment before are to pass
unfoldable pub segments_from : (ℕ → ℕ) → (ℕ → Bool) → Bool → ℕ → ℕ → ℕ → List ℕ → List ℕ
segments_from w white word width left i [] = []
segments_from w white word width (suc left) i (x ∷ row) = segments_from w white word width left (suc i) row
segments_from w white word width zero i (x ∷ row) =
    let k = first_segment w white word width (x ∷ row) in
    i ∷ (i + k) ∷ segments_from w white word width (k - 1) (suc i) row
