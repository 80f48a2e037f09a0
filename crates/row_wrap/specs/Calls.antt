-- What the walks of `src/` leave in the room by the tables that they are lent, and what the call answers: the number that it is refused for,
-- or what the definitions give by the widths of a setting.
-- Definitions only. Assumes nothing.
use Rattle.std.specs.Prelude.{ℕ, ◌*◌, ◌≤◌, ◌≡◌, List, [], ◌∷◌, Bool, cond, length, eqb}
use Rattle.chars.specs.declared.Measure.{Measure}
use Rattle.chars.specs.White.{is_white}
use Rattle.chars.specs.Width.{width_with}
use Rattle.widths.specs.declared.Ambiguous.{Ambiguous}
use Rattle.widths.specs.Widths.{width_as}
use Rattle.row_check.specs.Row.{row_refusal}
use Rattle.row_segment.specs.Lent.{Tables}
use Rattle.row_wrap.specs.declared.Wrap.{Wrap}
use Rattle.row_wrap.specs.declared.Segments.{Segments}
use Rattle.row_wrap.specs.Segments.{segments_from}
use Rattle.row_wrap.specs.Modes.{segments_of}
use Rattle.row_wrap.specs.Room.{filled, Answered, room_refusal, Fitted}

-- the segments of a row that is broken, by a width function w
abbrev pub row_segments : (ℕ → ℕ) → Bool → ℕ → List ℕ → List ℕ
row_segments w word width row = segments_from w is_white word width 0 0 row

-- what the walks require: the tables that they are lent, and a row that is not too long
pub record RowLent (m : Measure) (white row : List ℕ) : Type 0 where
  pub tables : Tables m white
  pub brief : length row ≤ 1048576

-- and room for its segments
pub record SegmentsRoom (m : Measure) (white row : List ℕ) (width : ℕ) (word : Bool) (room : List ℕ) : Type 0 where
  pub lent : RowLent m white row
  pub fits : length (row_segments (width_with m) word width row) ≤ length room

-- r is how many there are
pub record Counted (w : ℕ → ℕ) (word : Bool) (width : ℕ) (row : List ℕ) (r : ℕ) : Type 0 where
  pub count : length (row_segments w word width row) ≡ 2 * r
  pub inside : r ≤ length row

-- they stand in the room; and that they do, or were too many
abbrev pub Written : (ℕ → ℕ) → Bool → ℕ → List ℕ → List ℕ → List ℕ → Type 0
Written w word width row room room' = room' ≡ filled (row_segments w word width row) room

abbrev pub Broken : (ℕ → ℕ) → Bool → ℕ → List ℕ → List ℕ → Segments → List ℕ → Type 0
Broken w word width row room r room' = Fitted (row_segments w word width row) room r room'

-- the same of the one segment of a row that is not broken
abbrev pub Whole : List ℕ → List ℕ → Segments → List ℕ → Type 0
Whole row room r room' = Fitted (0 ∷ length row ∷ []) room r room'

-- 1 and 2 of the row, and then 9
unfoldable pub wrap_refusal : List ℕ → List ℕ → List ℕ → ℕ
wrap_refusal row segments room = cond (eqb (row_refusal row) 0) (room_refusal segments room) (row_refusal row)

-- what `wrap_segments` answers and leaves in the room under a setting
abbrev pub Wraps : Ambiguous → Wrap → ℕ → List ℕ → List ℕ → Segments → List ℕ → Type 0
Wraps a mode width row room r room' =
    let segments = segments_of (width_as a) is_white mode width row in Answered (wrap_refusal row segments room) segments room r room'
