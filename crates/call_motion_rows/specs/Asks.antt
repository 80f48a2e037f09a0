-- What a motion by numbers answers beside a table of row starts: the reply of the call without one, and then 15, 16. From document 02, #106.
-- Definitions only; the laws are in `proofs/Tabled.antt`. Assumes nothing.
use Rattle.std.specs.Prelude.{ℕ, List, cond, eqb, leb, Option, Some, None}
use Rattle.motions.specs.declared.Move.{Move}
use Rattle.text.specs.Text.{row_count}
use Rattle.row_table.specs.Table.{table_refusal}
use Rattle.motions.specs.declared.Caret.{Caret}
use Rattle.motions.specs.declared.Sought.{Sought}
use Rattle.motions.specs.declared.Sought.TheVariants.{Refused}
use Rattle.motion_rows.specs.Going.{goes_rows}
use Rattle.call_bytes.specs.Reply.{Reply, answer, refused}
use Rattle.call_rows.specs.Flags.{setting_of, plain_of}
use Rattle.call_rows.specs.Wraps.{mode_of}
use Rattle.call_folds.specs.Upright.{upright_of}
use Rattle.call_folds.specs.Kept.{kept_of}

-- a refusal stands; an answer gives way to the table's, if that is refused
unfoldable pub replied_by : ℕ → Reply → Reply
replied_by g (refused f) = refused f
replied_by g (answer v) = cond (eqb g 0) (answer v) (refused g)

-- the reply m of the call without a table, beside one
abbrev pub by_table : List ℕ → List ℕ → ℕ → Reply → Reply
by_table t starts content m = replied_by (table_refusal (row_count t) t starts content) m

-- the answer of what a number asks for; 100 where it stands for nothing
unfoldable pub rows_as : Option Move → ℕ → Caret → List ℕ → List ℕ → ℕ → List ℕ → List ℕ → ℕ → Sought
rows_as (Some m) n k t starts content folds list tabstop = goes_rows t starts content folds list tabstop m n k
rows_as None n k t starts content folds list tabstop = Refused 100

-- up, down and the screen by the number of a mode; nothing for another
unfoldable pub upright_by : ℕ → ℕ → ℕ → Option Move
upright_by op mode width = cond (leb mode 2) (upright_of (setting_of op) (plain_of op) (mode_of mode) width) None

-- the moves that remember, likewise
unfoldable pub kept_by : ℕ → ℕ → ℕ → Option Move
kept_by op mode width = cond (leb mode 2) (kept_of (setting_of op) (plain_of op) (mode_of mode) width) None
