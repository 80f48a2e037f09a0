-- Every motion with a table of row starts: what the motion answers without one, and then 15, 16. From document 02, #106.
-- Definitions only; that the two entries answer alike where the table is the text's is `second_first` of `proofs/Alike.antt`. Assumes nothing.
use Rattle.std.specs.Prelude.{ℕ, List, cond, eqb}
use Rattle.text.specs.Text.{row_count}
use Rattle.row_table.specs.Table.{table_refusal}
use Rattle.motions.specs.declared.Caret.{Caret}
use Rattle.motions.specs.declared.Move.{Move}
use Rattle.motions.specs.declared.Sought.{Sought}
use Rattle.motions.specs.declared.Sought.TheVariants.{Found, Missing, Refused}
use Rattle.motions.specs.Going.{goes}

-- a refusal stands; any other answer gives way to the table's, if that is refused
unfoldable pub or_table : ℕ → Sought → Sought
or_table g (Refused f) = Refused f
or_table g (Found k) = cond (eqb g 0) (Found k) (Refused g)
or_table g (Missing k) = cond (eqb g 0) (Missing k) (Refused g)

abbrev pub goes_rows : List ℕ → List ℕ → ℕ → List ℕ → List ℕ → ℕ → Move → ℕ → Caret → Sought
goes_rows t starts content folds list tabstop m n k = or_table (table_refusal (row_count t) t starts content) (goes t folds list tabstop m n k)
