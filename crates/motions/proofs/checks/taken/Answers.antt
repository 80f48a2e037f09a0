-- `checks::taken` meets its contract: all of the folds' numbers, or none of them. Assumes nothing.
use Rattle.lists.proofs.Kit.{arith, take-length}
use Rattle.motions.proofs.checks.taken.Goals as goal

pub returns-in-Fwd : goal.returns-in-Fwd
returns-in-Fwd c = record { inside = omega arith; part = rw c.in-Fwd.is (take-length _) }

pub returns-in-Back : goal.returns-in-Back
returns-in-Back c = record { inside = omega arith; part = rw c.in-Back.is (take-length _) }

pub returns-in-End : goal.returns-in-End
returns-in-End c = record { inside = omega arith; part = rw c.in-End.is (take-length _) }
