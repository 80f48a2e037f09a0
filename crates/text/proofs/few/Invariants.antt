-- `text::few` meets its contract. The invariant of its loop: n counts the separators before x. Assumes nothing.
use Rattle.lists.proofs.Kit.{◌≡◌, ◌+◌, ◌≤◌, length, drop}
use Rattle.text.specs.Text.{row_count}
use Rattle.text.proofs.few.Given as goal

abbrev pub invariant-loop-x : goal.invariant-loop-x
invariant-loop-x l = (l.x-index ≤ length l.part) × (l.n ≤ l.x-index) × (row_count l.part ≡ l.n + row_count (drop l.x-index l.part))
