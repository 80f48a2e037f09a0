-- `run::run` meets its contract. The invariant of its loop: the places of the jumps made are written, what is left from the place reached is what is
-- left of all (`Running`), that place is one of the text, and the stretch has no closed fold (`OnTheWay`). Assumes nothing.
use Rattle.lists.proofs.Kit.{length}
use Rattle.word_kinds.specs.Lent.{kind_by, kinds_by}
use Rattle.jumps.proofs.Running.{OnTheWay}
use Rattle.jumps.proofs.run.run.Given as goal

abbrev pub invariant-loop-i : goal.invariant-loop-i
invariant-loop-i l =
    OnTheWay l.t l.folds (kinds_by l.by) l.jumps l.initial.answers l.initial.cur (length l.jumps) l.i l.answers l.cur l.w
