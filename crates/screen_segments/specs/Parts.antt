-- The segments of a row by their number: `lay` is how a row is broken, start, end, start, end .. From `step_screen` of motions.rs.
-- Definitions only; the laws are in `proofs/Seats.antt` and `proofs/Finding.antt`. Assumes nothing.
use Rattle.std.specs.Prelude.{ℕ, ◌+◌, ◌-◌, ◌*◌, ◌/◌, ◌≤◌, ◌<◌, min, max, ◌≡◌, List, Bool, cond, ltb, length, get_or}
use Rattle.chars.specs.declared.Measure.{Measure}
use Rattle.chars.specs.White.{is_white}
use Rattle.row_wrap.specs.declared.Wrap.{Wrap}
use Rattle.row_wrap.specs.declared.Wrap.TheVariants.{Char, Word}
use Rattle.row_wrap.specs.Modes.{segments_of}
use Rattle.row_cells.specs.Offsets.{segment_index}
use Rattle.row_segment.specs.Lent.{Tables}
use Rattle.screen_segments.specs.declared.Part.{Part}

-- `clamp_to_segment`: so many characters behind the segment's start, within the segment and the row of `len` characters
abbrev pub clamp_to : ℕ → ℕ → ℕ → ℕ → ℕ
clamp_to start end offset len = max (min (min (start + offset) (cond (ltb start end) (end - 1) start)) (len - 1)) (min start (len - 1))

-- how many segments there are, and how many come after segment j, down or up; so also the segment that has so many ahead of it
abbrev pub segment_count : List ℕ → ℕ
segment_count segs = length segs / 2

abbrev pub ahead_of : Bool → ℕ → ℕ → ℕ
ahead_of down count j = cond down (count - 1 - j) j

-- the character offset of a column in its segment, which all rounds keep
abbrev pub offset_in : List ℕ → List ℕ → ℕ → ℕ
offset_in segs row col = col - get_or segs (2 * segment_index segs col) 0

abbrev pub mode_of : Bool → Wrap
mode_of word = cond word Word Char

-- how a row is broken, by a width function w
abbrev pub lay_of : (ℕ → ℕ) → Bool → ℕ → List ℕ → List ℕ
lay_of w word width row = segments_of w is_white (mode_of word) width row

-- segment j with its start and end
abbrev pub part_at : List ℕ → ℕ → Part
part_at segs j = record { index = j; start = get_or segs (2 * j) 0; end = get_or segs (2 * j + 1) 0 }

-- the segment of a column, or an earlier one that has the number
abbrev pub part_for : List ℕ → ℕ → ℕ → Part
part_for segs col index = part_at segs (min index (segment_index segs col))

-- what breaking a row requires: the tables that are lent, and a width of at least one cell
pub record Breaks (m : Measure) (white : List ℕ) (width : ℕ) : Type 0 where
  pub tables : Tables m white
  pub wide : 0 < width

-- r is that segment, and how many there are
pub record PartIs (row segs : List ℕ) (col index : ℕ) (r : Part) : Type 0 where
  pub part : r ≡ part_for segs col index
  pub inside : r.index ≤ length row

pub record CountIs (segs : List ℕ) (r : ℕ) : Type 0 where
  pub count : r ≡ segment_count segs
  pub some : 0 < r
