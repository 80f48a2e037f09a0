-- What the calls of `src/lib.rt` answer: the number that they are refused for, or what the definitions give by the widths of a setting.
-- Definitions only. Assumes nothing.
use Rattle.std.specs.Prelude.{ℕ, ◌%◌, ◌≤◌, List, cond, length, eqb}
use Rattle.chars.specs.declared.Measure.{Measure}
use Rattle.chars.specs.Width.{Measures}
use Rattle.widths.specs.declared.Ambiguous.{Ambiguous}
use Rattle.widths.specs.Widths.{width_as}
use Rattle.row_check.specs.declared.Column.{Column}
use Rattle.row_check.specs.Row.{row_refusal, column_of}
use Rattle.row_offsets.specs.declared.Ask.{Ask}
use Rattle.row_offsets.specs.declared.Ask.TheVariants.{Char, Cells}
use Rattle.row_offsets.specs.declared.Segment.{Segment}
use Rattle.row_offsets.specs.declared.Segment.TheVariants.{At, Refused}
use Rattle.row_cells.specs.Offsets.{char_at_offset, offset_of_char, segment_index}

abbrev pub char_col_for_visual_offset : Ambiguous → List ℕ → ℕ → ℕ → ℕ → Column
char_col_for_visual_offset a row start end offset = column_of (row_refusal row) (char_at_offset (width_as a) row start end offset)

abbrev pub visual_offset_for_char_col : Ambiguous → List ℕ → ℕ → ℕ → Column
visual_offset_for_char_col a row start col = column_of (row_refusal row) (offset_of_char (width_as a) row start col)

-- the two by what is asked for, over any width function w; the cells before a column go by no end
abbrev pub offset_by : (ℕ → ℕ) → Ask → List ℕ → ℕ → ℕ → ℕ → ℕ
offset_by w Char row start end n = char_at_offset w row start end n
offset_by w Cells row start end n = offset_of_char w row start n

abbrev pub offset_as : Ambiguous → Ask → List ℕ → ℕ → ℕ → ℕ → Column
offset_as a ask row start end n = column_of (row_refusal row) (offset_by (width_as a) ask row start end n)

-- what they require by the tables that are lent: the tables of widths, and a row that is not too long
pub record RowLent (m : Measure) (row : List ℕ) : Type 0 where
  pub widths : Measures m
  pub brief : length row ≤ 1048576

-- 10: a slice of odd length
abbrev pub segment_for_col : List ℕ → ℕ → Segment
segment_for_col segments col = cond (eqb (length segments % 2) 0) (At (segment_index segments col)) (Refused 10)
