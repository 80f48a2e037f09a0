-- What an edit that keeps a table answers and leaves, as the list of cases has it, and the verdict of a case. What the contracts of
-- `replay_tables::editing` cite. Definitions only. Assumes nothing.
use Rattle.std.specs.Prelude.{ℕ, ◌*◌, List, [], ◌∷◌, ◌++◌, cond, ◌&&◌, eqb, leb, length, take}
use Rattle.text.specs.Text.{row_count}
use Rattle.text.specs.declared.Position.{Position}
use Rattle.edit_places.specs.Replaced.{refilled}
use Rattle.row_table.specs.Table.{row_starts}
use Rattle.edits.specs.Edits.{new_text, new_folds, kept_by}
use Rattle.call_bytes.specs.Reply.{number, left}
use Rattle.call_edits.specs.Edits.{sizes_in, position_at}
use Rattle.call_row_table.specs.Tables.{caret_reply, sizes_reply, number_of, edit_of, HostKeeps}
use Rattle.replay_rows.specs.declared.Head.{Head}
use Rattle.replay_verdicts.specs.declared.Verdict.{Verdict}
use Rattle.replay_verdicts.specs.declared.Verdict.TheVariants.{Malformed}
use Rattle.replay_verdicts.specs.Answers.{compared}

-- where the stretch begins and ends, and what it gives way to: operation 1 inserts, any other deletes
abbrev pub from : Head → Position
from k = position_at k.a k.b

unfoldable pub to : Head → Position
to k = cond (eqb k.op 1) (from k) (position_at k.c k.d)

unfoldable pub put : Head → List ℕ → List ℕ
put k c = cond (eqb k.op 1) c []

-- the caret, which keeps a sticky column and an offset, and the sizes
abbrev pub caret_lent : Head → List ℕ
caret_lent k = k.g ∷ k.h ∷ 1 ∷ 7 ∷ 1 ∷ 3 ∷ []

abbrev pub sizes_lent : Head → ℕ → List ℕ
sizes_lent k content = k.e ∷ k.f ∷ content ∷ []

-- the call of the operation
abbrev pub Keeps : Head → List ℕ → List ℕ → List ℕ → List ℕ → List ℕ → List ℕ → ℕ → List ℕ → List ℕ → List ℕ → List ℕ → List ℕ → Type 0
Keeps k c buf fold table caret sizes r buf' fold' table' caret' sizes' =
    HostKeeps buf fold table (from k) (to k) (put k c) caret sizes r buf' fold' table' caret' sizes'

-- the number, the caret, the sizes, both buffers, and the table
unfoldable pub kept_into : Head → List ℕ → ℕ → List ℕ → List ℕ → List ℕ → List ℕ
kept_into k c content buf fold table =
    let s = sizes_in (sizes_lent k content) in
    let f = number_of buf fold table (from k) (to k) (put k c) (caret_lent k) (sizes_lent k content) in
    let m = edit_of buf fold table (from k) (to k) (put k c) (caret_lent k) (sizes_lent k content) in
    number (caret_reply m) ∷
    ((((left (caret_reply m) (caret_lent k) ++ left (sizes_reply m) (sizes_lent k content))
    ++ kept_by f buf (refilled buf s.len (new_text buf s (from k) (to k) (put k c))))
    ++ kept_by f fold (refilled fold (3 * s.count) (new_folds fold s (from k) (to k) (put k c))))
    ++ kept_by f table (refilled table (row_count (take s.len buf)) (row_starts (new_text buf s (from k) (to k) (put k c)))))

-- buffers and a table of at most 64 places each
unfoldable pub edit_verdict : Head → List ℕ → List ℕ → ℕ → List ℕ → List ℕ → List ℕ → Verdict
edit_verdict k buf fold content table c stored =
    cond (leb (length buf) 64 && (leb (length fold) 64 && leb (length table) 64)) (compared (kept_into k c content buf fold table) stored) Malformed
