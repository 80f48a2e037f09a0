-- What a fill answers and leaves, as the list of cases has it, and the verdict of a case. What the contracts of `replay_tables::filling` cite.
-- Definitions only. Assumes nothing.
use Rattle.std.specs.Prelude.{List, [], ◌∷◌, ◌++◌, cond, ℕ, leb, length}
use Rattle.row_table.specs.Fill.{fill_refusal, table_of}
use Rattle.edits.specs.Edits.{kept_by}
use Rattle.call_bytes.specs.Reply.{number, left, told}
use Rattle.call_texts.specs.Rows.{told_rows}
use Rattle.call_row_table.specs.Tables.{fill_of}
use Rattle.replay_verdicts.specs.declared.Verdict.{Verdict}
use Rattle.replay_verdicts.specs.declared.Verdict.TheVariants.{Malformed}
use Rattle.replay_verdicts.specs.Answers.{compared, filler}

-- the number, how many rows have content, and the table
unfoldable pub filled_into : List ℕ → List ℕ → List ℕ
filled_into text table =
    let m = told (told_rows (fill_of text table)) in
    number m ∷ (left m (filler ∷ []) ++ kept_by (fill_refusal text table) table (table_of text table))

-- of at most 64 places
unfoldable pub fill_verdict : List ℕ → List ℕ → List ℕ → Verdict
fill_verdict text table stored = cond (leb (length table) 64) (compared (filled_into text table) stored) Malformed
