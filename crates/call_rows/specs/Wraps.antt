-- The replies of calls on the segments of a row. Cited by `call_rows::wraps`. Assumes nothing.
use Rattle.std.specs.Prelude.{ℕ, ◌/◌, ◌≡◌, length, List, cond, eqb, leb}
use Rattle.row_offsets.specs.declared.Segment.{Segment}
use Rattle.row_offsets.specs.declared.Segment.TheVariants.{At, Refused as Segment-as-Refused}
use Rattle.row_wrap.specs.declared.Segments.{Segments}
use Rattle.row_wrap.specs.declared.Segments.TheVariants.{Count, Refused as Segments-as-Refused}
use Rattle.row_wrap.specs.declared.Wrap.{Wrap}
use Rattle.row_wrap.specs.declared.Wrap.TheVariants.{None, Char, Word}
use Rattle.row_offsets.specs.Calls.{char_col_for_visual_offset, visual_offset_for_char_col, segment_for_col}
use Rattle.row_wrap.specs.Calls.{wrap_refusal}
use Rattle.row_wrap.specs.Modes.{segments_of}
use Rattle.row_wrap.specs.Room.{count_of, filled}
use Rattle.chars.specs.White.{is_white}
use Rattle.widths.specs.declared.Ambiguous.{Ambiguous}
use Rattle.widths.specs.Widths.{width_as}
use Rattle.call_bytes.specs.declared.Told.{Told}
use Rattle.call_bytes.specs.declared.Told.TheVariants.{Value, Refused}
use Rattle.call_bytes.specs.Reply.{Reply, told}
use Rattle.call_rows.specs.Flags.{setting_of, plain_of}
use Rattle.call_rows.specs.Tabs.{told_column}

-- the number and value of `segment_for_col`: an index, or a refusal's number; 103 of one that no u32 holds
unfoldable pub told_segment : Segment → Told
told_segment (At n) = cond (leb n 4294967295) (Value n) (Refused 103)
told_segment (Segment-as-Refused f) = Refused f

-- of `wrap_segments`: the count of segments, or a refusal's number
unfoldable pub told_segments : Segments → Told
told_segments (Count n) = Value n
told_segments (Segments-as-Refused f) = Refused f

-- what a number stands for under a setting; 100 where it stands for nothing
unfoldable pub offset_under : Ambiguous → ℕ → ℕ → ℕ → ℕ → List ℕ → Told
offset_under a op start end at row =
    cond (eqb op 0) (told_column (char_col_for_visual_offset a row start end at))
    (cond (eqb op 1) (told_column (visual_offset_for_char_col a row start at))
    (Refused 100))

-- by a number with or without the flag for wide
abbrev pub offset : ℕ → ℕ → ℕ → ℕ → List ℕ → Told
offset op start end at row = offset_under (setting_of op) (plain_of op) start end at row

abbrev pub offsets : ℕ → ℕ → ℕ → ℕ → List ℕ → Reply
offsets op start end at row = told (offset op start end at row)

abbrev pub segment_of : ℕ → List ℕ → Reply
segment_of col segments = told (told_segment (segment_for_col segments col))

-- the modes None, Char and Word by 0, 1 and 2
unfoldable pub mode_of : ℕ → Wrap
mode_of mode = cond (eqb mode 0) None (cond (eqb mode 1) Char Word)

-- the segments of `wrap_segments`, and the number that it is refused with
abbrev pub found : Ambiguous → ℕ → ℕ → List ℕ → List ℕ
found a mode width row = segments_of (width_as a) is_white (mode_of mode) width row

abbrev pub found_refusal : Ambiguous → ℕ → ℕ → List ℕ → List ℕ → ℕ
found_refusal a mode width segments row = wrap_refusal row (found a mode width row) segments

-- what it answers under a setting; 100 where the number stands for no mode
unfoldable pub segmented_under : Ambiguous → ℕ → ℕ → List ℕ → List ℕ → Told
segmented_under a mode width segments row =
    cond (leb mode 2) (told_segments (count_of (found_refusal a mode width segments row) (length (found a mode width row) / 2))) (Refused 100)

-- what it leaves in the places lent for segments
unfoldable pub left_under : Ambiguous → ℕ → ℕ → List ℕ → List ℕ → List ℕ
left_under a mode width segments row =
    cond (leb mode 2) (cond (eqb (found_refusal a mode width segments row) 0) (filled (found a mode width row) segments) segments) segments

pub record Segmented (a : Ambiguous) (mode width : ℕ) (row segments : List ℕ) (r : Told) (segments' : List ℕ) : Type 0 where
  pub answers : r ≡ segmented_under a mode width segments row
  pub leaves : segments' ≡ left_under a mode width segments row

-- both by a mode's number with or without the flag for wide
abbrev pub segmented : ℕ → ℕ → List ℕ → List ℕ → Told
segmented mode = segmented_under (setting_of mode) (plain_of mode)

abbrev pub segments_left : ℕ → ℕ → List ℕ → List ℕ → List ℕ
segments_left mode = left_under (setting_of mode) (plain_of mode)
