-- The replies of calls on the columns of a row, by the number that stands for each. Cited by `call_rows::tabs`. Assumes nothing.
use Rattle.std.specs.Prelude.{ℕ, List, cond, eqb}
use Rattle.widths.specs.declared.Ambiguous.{Ambiguous}
use Rattle.row_check.specs.declared.Column.{Column}
use Rattle.row_check.specs.declared.Column.TheVariants.{At, Refused as Column-as-Refused}
use Rattle.row_tabs.specs.Indents.{leading_visual_width}
use Rattle.row_columns.specs.Calls.{visual_col_to_char_col, char_col_to_visual_col, cursor_visual_col}
use Rattle.call_bytes.specs.declared.Told.{Told}
use Rattle.call_bytes.specs.declared.Told.TheVariants.{Value, Refused}
use Rattle.call_bytes.specs.Reply.{Reply, told}
use Rattle.call_rows.specs.Flags.{setting_of, plain_of}

-- the number and value of the calls that answer with a column: that, or a refusal's number
unfoldable pub told_column : Column → Told
told_column (At n) = Value n
told_column (Column-as-Refused f) = Refused f

-- what a number stands for under a setting, which the last one does not go by; 100 where it stands for nothing
unfoldable pub tab_column_under : Ambiguous → ℕ → ℕ → ℕ → List ℕ → Told
tab_column_under a op col tabstop row =
    cond (eqb op 0) (told_column (visual_col_to_char_col a row col tabstop))
    (cond (eqb op 1) (told_column (char_col_to_visual_col a row col tabstop))
    (cond (eqb op 2) (told_column (cursor_visual_col a row col tabstop))
    (cond (eqb op 3) (told_column (leading_visual_width row tabstop))
    (Refused 100))))

-- by a number with or without the flag for wide
abbrev pub tab_column : ℕ → ℕ → ℕ → List ℕ → Told
tab_column op col tabstop row = tab_column_under (setting_of op) (plain_of op) col tabstop row

abbrev pub tab_columns : ℕ → ℕ → ℕ → List ℕ → Reply
tab_columns op col tabstop row = told (tab_column op col tabstop row)
