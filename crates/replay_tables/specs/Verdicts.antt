-- The verdict of a case on row starts, by its operation. What the contracts of `replay_tables::tables` cite. Definitions only. Assumes nothing.
use Rattle.std.specs.Prelude.{ℕ, ◌+◌, ◌-◌, List, cond, ◌&&◌, eqb, ltb, leb, length, get_or}
use Rattle.replay_rows.specs.Cases.{part}
use Rattle.replay_rows.specs.declared.Head.{Head}
use Rattle.replay_verdicts.specs.declared.Verdict.{Verdict}
use Rattle.replay_verdicts.specs.declared.Verdict.TheVariants.{Malformed}
use Rattle.replay_verdicts.specs.Answers.{compared}
use Rattle.replay_tables.specs.Tables.{fill_verdict}
use Rattle.replay_tables.specs.Edits.{edit_verdict}
use Rattle.replay_tables.specs.Motions.{motion_of, seek_of, word_of, vertical_verdict, viewport_verdict, kept_verdict}

-- a motion, by the hundreds of its number
unfoldable pub moved_verdict : Head → List ℕ → List ℕ → ℕ → List ℕ → List ℕ → List ℕ → Verdict
moved_verdict k t folds n starts own stored =
    cond (ltb k.op 100) Malformed
    (cond (ltb k.op 200) (compared (motion_of (k.op - 100) k t n starts) stored)
    (cond (ltb k.op 300) (compared (word_of (k.op - 200) k t folds n starts own) stored)
    (cond (ltb k.op 600) (vertical_verdict (k.op - 300) k t folds n starts stored)
    (cond (ltb k.op 700) (viewport_verdict (k.op - 600) k t n starts stored)
    (cond (ltb k.op 800) (compared (seek_of (k.op - 700) k t n starts) stored)
    (kept_verdict (k.op - 800) k t folds n starts own stored))))))

-- an edit or a motion: n rows have content, and `own` is what the call takes beside its table
unfoldable pub parts_verdict : Head → List ℕ → List ℕ → ℕ → List ℕ → List ℕ → List ℕ → Verdict
parts_verdict k t folds n starts own stored =
    cond (ltb k.op 3) (edit_verdict k t folds n starts own stored) (moved_verdict k t folds n starts own stored)

-- where that begins in the list of a case
abbrev pub own_at : List ℕ → ℕ
own_at list = 2 + get_or list 1 0

-- the list of a fill is its table
unfoldable pub tabled_verdict : Head → List ℕ → List ℕ → List ℕ → List ℕ → Verdict
tabled_verdict k t folds list stored =
    cond (eqb k.op 0) (fill_verdict t list stored)
    (cond (leb 2 (length list) && leb (own_at list) (length list))
    (parts_verdict k t folds (get_or list 0 0) (part 2 (own_at list) list) (part (own_at list) (length list) list) stored)
    Malformed)
