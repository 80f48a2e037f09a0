-- `session_input::find_stop` meets its contract. The invariant of its loop: no row before i is a full stop. The measure is the rest of the input.
-- Assumes nothing.
use Rattle.lists.proofs.Kit.{sym, ◌∙◌}
use Rattle.session_input.proofs.Rows.{sought_start, sought_on, sought_here, sought_end}
use Rattle.session_input.proofs.find_stop.Goals as goal

pub loop-i-init : goal.loop-i-init
loop-i-init c = sought_start _

pub returns-then-is_stop : goal.returns-then-is_stop
returns-then-is_stop c =
    sought_here c.loop-i.invariant c.loop-i-test.true c.find-e.ensures
    (sym c.is_stop.ensures ∙ c.if-is_stop.true)

pub loop-i-preserved : goal.loop-i-preserved
loop-i-preserved c =
    sought_on c.loop-i.invariant c.loop-i-test.true c.find-e.ensures
    (sym c.is_stop.ensures ∙ c.if-is_stop.false)

pub returns : goal.returns
returns c = sought_end c.loop-i.invariant c.loop-i-test.false
