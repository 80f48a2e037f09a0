-- `walks::space_fwd` meets its contract. The invariant of its loop: what is left of the rounds, from the place of the walk, leads where all of them do.
-- Assumes nothing.
use Rattle.lists.proofs.Kit.{◌-◌, max}
use Rattle.text.specs.Text.{position}
use Rattle.steps.specs.Steps.{space_fwd}
use Rattle.steps.proofs.Stepping.{Going}
use Rattle.steps.proofs.walks.space_fwd.Given as goal

abbrev pub invariant-loop : goal.invariant-loop
invariant-loop l =
    Going (space_fwd l.t) (position l.initial.row (l.initial.at - l.initial.start)) (max l.count 1) l.t l.row l.start l.at l.counter
