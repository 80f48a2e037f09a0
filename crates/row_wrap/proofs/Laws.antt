-- What a user of `wrap_segments` leans on, in every mode and over any width function w and test of white space: a setting may change
-- the tables and leaves these as they are. Assumes nothing.
use Rattle.lists.proofs.Kit.{◌≡◌, refl, List, [], ◌∷◌, Bool, true, false, or-true, ◌⊎◌, ℕ, ◌+◌, ◌*◌, ◌/◌, ◌-◌, ◌≤◌, ◌<◌, arith, length, eqb}
use Rattle.row_wrap.specs.declared.Wrap.{Wrap}
use Rattle.row_wrap.specs.Modes.{is_none, is_word, is_whole, segments_of}
use Rattle.row_wrap.specs.Segments.{segments_from}
use Rattle.row_cells.specs.Offsets.{part, cells_in, segment_index}
use Rattle.row_wrap.proofs.Room.{segments_whole, segments_broken}
use Rattle.row_wrap.proofs.Tiles.{Tiles, Each, segments_tile, segments_fit}
use Rattle.row_wrap.proofs.Index.{Found, index_finds, index_last, index_only, tiles_even}
use Rattle.row_wrap.proofs.Walk.{NextSegment}

module _ (w : ℕ → ℕ) (white : ℕ → Bool) (mode : Wrap) (width : ℕ) (row : List ℕ) where
  -- the segments of a row that has characters tile it: from 0 to its count, each from where the one before ends, and none is empty
  pub wrap_tiles : 0 < length row → Tiles 0 (length row) (segments_of w white mode width row)
  wrap_tiles h = go (is_whole mode width (length row)) refl
    where
      go : (b : Bool) → is_whole mode width (length row) ≡ b → Tiles 0 (length row) (segments_of w white mode width row)
      go true e = rw (segments_whole w white mode width row e) (refl, h, refl)
      go false e = rw (segments_broken w white mode width row e) (segments_tile w white (is_word mode) width row)

  -- where the row is broken, each fits the width or is one character
  pub wrap_fits : is_whole mode width (length row) ≡ false → Each (λ s e. (cells_in w (part row s e) ≤ width) ⊎ (e ≡ s + 1)) (segments_of w white mode width row)
  wrap_fits e = rw (segments_broken w white mode width row e) (segments_fit w white (is_word mode) width row)

  -- the list is pairs, and so half its length is the number of segments
  pub wrap_even : 0 < length row → 2 * (length (segments_of w white mode width row) / 2) ≡ length (segments_of w white mode width row)
  wrap_even h = tiles_even 0 (length row) (segments_of w white mode width row) (wrap_tiles h)

  -- a column of the row is found in the segment that holds it, and one past the row in the last
  pub wrap_finds : (col : ℕ) → col < length row → Found col (segments_of w white mode width row) (segment_index (segments_of w white mode width row) col)
  wrap_finds col h = index_finds (length row) (segments_of w white mode width row) col (wrap_tiles (omega arith)) h

  pub wrap_last : (col : ℕ) → 0 < length row → length row ≤ col →
      segment_index (segments_of w white mode width row) col ≡ length (segments_of w white mode width row) / 2 - 1
  wrap_last col p h = index_last (length row) (segments_of w white mode width row) col (wrap_tiles p) h

-- a walk that has passed n segments and stands before the one that holds the column has found the index of the column
pub walk_finds : (w : ℕ → ℕ) (white : ℕ → Bool) (word : Bool) (width : ℕ) (row : List ℕ) (n start end col : ℕ) →
    NextSegment w white word width row (2 * n) start end → start ≤ col → col < end →
    segment_index (segments_from w white word width 0 0 row) col ≡ n
walk_finds w white word width row n start end col next low high =
    index_only (length row) (segments_from w white word width 0 0 row) col n (segments_tile w white word width row)
    (record { there = next.there; low = omega (arith, next.first); high = omega (arith, next.second) })

-- an empty row has the one segment that is empty
pub wrap_empty : (w : ℕ → ℕ) (white : ℕ → Bool) (mode : Wrap) (width : ℕ) → segments_of w white mode width [] ≡ 0 ∷ 0 ∷ []
wrap_empty w white mode width = segments_whole w white mode width [] (rw (or-true (eqb width 0)) (or-true (is_none mode)))
