-- `walks::walk` meets its contract. The invariant of its loop: the n rounds from the first spot are the `left` rounds from this one,
-- and no fold hides the next `free` rows. The measure is `left`. Assumes nothing.
use Rattle.chars.specs.Width.{width_with}
use Rattle.screen.proofs.Walking.{Striding}
use Rattle.screen.proofs.walks.walk.Given as goal

abbrev pub invariant-loop-ahead : goal.invariant-loop-ahead
invariant-loop-ahead l =
    Striding (width_with l.by) l.t l.folds l.rows l.word l.width l.down l.n l.initial.row l.initial.ahead l.row l.start l.ahead l.left l.free

abbrev pub decreases-loop-ahead : goal.decreases-loop-ahead
decreases-loop-ahead l = l.left
