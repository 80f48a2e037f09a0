-- `move_starts` meets its contract. The invariant of its loop: the starts before the one that it has come to are moved. Assumes nothing.
use Rattle.lists.proofs.Kit.{◌≡◌, ◌++◌, map, take, drop}
use Rattle.edit_starts.specs.Moved.{moved_start}
use Rattle.edit_starts.proofs.move_starts.Given as goal

abbrev pub invariant-loop-s : goal.invariant-loop-s
invariant-loop-s l = l.s-items ≡ map (moved_start l.less l.more) (take l.s-index l.initial.s-items) ++ drop l.s-index l.initial.s-items
