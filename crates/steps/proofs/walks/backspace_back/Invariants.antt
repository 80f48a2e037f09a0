-- `walks::backspace_back` meets its contract. The invariant of its loop: what is left of the rounds, from the place of the walk, leads where all of them
-- do. Assumes nothing.
use Rattle.lists.proofs.Kit.{◌-◌, max}
use Rattle.text.specs.Text.{position}
use Rattle.text.specs.Offsets.{row_start}
use Rattle.steps.specs.Steps.{backspace_back}
use Rattle.steps.proofs.Stepping.{Going}
use Rattle.steps.proofs.walks.backspace_back.Given as goal

abbrev pub invariant-loop : goal.invariant-loop
invariant-loop l =
    Going (backspace_back l.t) (position l.initial.row (l.initial.at - row_start l.t l.initial.row)) (max l.count 1) l.t l.row (row_start l.t l.row) l.at l.counter
