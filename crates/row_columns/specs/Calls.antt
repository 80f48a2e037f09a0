-- What the three calls of `src/lib.rt` answer under a setting: the number that they are refused for, or the column by its widths.
-- Definitions only. Assumes nothing.
use Rattle.std.specs.Prelude.{ℕ, List}
use Rattle.widths.specs.declared.Ambiguous.{Ambiguous}
use Rattle.widths.specs.Widths.{width_as}
use Rattle.row_check.specs.declared.Column.{Column}
use Rattle.row_check.specs.Row.{column_of}
use Rattle.row_tabs.specs.Cells.{column_refusal}
use Rattle.row_columns.specs.declared.Ask.{Ask}
use Rattle.row_columns.specs.declared.Ask.TheVariants.{Char, Visual, Cursor}
use Rattle.row_columns.specs.Columns.{char_col, visual_col, cursor_col}

abbrev pub visual_col_to_char_col : Ambiguous → List ℕ → ℕ → ℕ → Column
visual_col_to_char_col a row visual tabstop = column_of (column_refusal row tabstop) (char_col (width_as a) tabstop row visual)

abbrev pub char_col_to_visual_col : Ambiguous → List ℕ → ℕ → ℕ → Column
char_col_to_visual_col a row col tabstop = column_of (column_refusal row tabstop) (visual_col (width_as a) tabstop row col)

abbrev pub cursor_visual_col : Ambiguous → List ℕ → ℕ → ℕ → Column
cursor_visual_col a row col tabstop = column_of (column_refusal row tabstop) (cursor_col (width_as a) tabstop row col)

-- the three by what is asked for, over any width function w
abbrev pub column_by : (ℕ → ℕ) → Ask → ℕ → List ℕ → ℕ → ℕ
column_by w Char = char_col w
column_by w Visual = visual_col w
column_by w Cursor = cursor_col w

abbrev pub column_as : Ambiguous → Ask → List ℕ → ℕ → ℕ → Column
column_as a ask row n tabstop = column_of (column_refusal row tabstop) (column_by (width_as a) ask tabstop row n)
