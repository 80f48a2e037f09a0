-- `row_offsets::index_of` meets its contract. The invariant of its loop: no pair before k holds the column.
-- Assumes nothing.
use Rattle.lists.proofs.Kit.{sym, ◌∙◌, arith}
use Rattle.row_cells.proofs.Pairs.{pairs_next, pairs_stop, pairs_end}
use Rattle.row_offsets.proofs.index_of.Goals as goal

pub loop-k-init : goal.loop-k-init
loop-k-init c = record { inside = omega arith; rest = omega arith }

pub returns-then-holds : goal.returns-then-holds
returns-then-holds c =
    pairs_stop c.loop-k.invariant c.loop-k-test.true (sym c.holds.ensures ∙ c.if-holds.true)

pub loop-k-preserved : goal.loop-k-preserved
loop-k-preserved c =
    pairs_next c.loop-k.invariant c.loop-k-test.true (sym c.holds.ensures ∙ c.if-holds.false)

pub returns-then-n-eq0 : goal.returns-then-n-eq0
returns-then-n-eq0 c = omega (arith, pairs_end c.loop-k.invariant c.loop-k-test.false)

pub returns : goal.returns
returns c = sym (pairs_end c.loop-k.invariant c.loop-k-test.false)
