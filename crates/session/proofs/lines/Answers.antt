-- `session::lines` meets its contract. The invariant of its loop: what was printed so far, and that the rest is still to come. The measure is
-- the rest of the input. Assumes nothing.
use Rattle.lists.proofs.Kit.{sym, ◌∙◌, ◌-◌, arith}
use Rattle.session.proofs.Progress.{progress_start, progress_end, progress_room, progress_on, commands_stop, commands_end}
use Rattle.session.proofs.lines.Goals as goal

pub loop-i-init : goal.loop-i-init
loop-i-init c = rw c.at-k.ensures (progress_start _ _ _)

pub returns-then-is_stop : goal.returns-then-is_stop
returns-then-is_stop c =
    let invariant = c.loop-i.invariant in
    progress_end invariant
    (commands_stop invariant c.loop-i-test.true c.find-e.ensures (sym c.is_stop.ensures ∙ c.if-is_stop.true))

-- there is room for the line
pub put_line-at-requires : goal.put_line-at-requires
put_line-at-requires c =
    let is_stop_so = sym c.is_stop.ensures ∙ c.if-is_stop.false in
    let by_progress_room = progress_room c.loop-i.invariant c.loop-i-test.true c.find-e.ensures is_stop_so
    (omega arith) in
    rw (c.key.ensures, c.after-k.ensures, c.turn-m.ensures) (omega arith)

pub loop-i-preserved : goal.loop-i-preserved
loop-i-preserved c =
    let is_stop_so = sym c.is_stop.ensures ∙ c.if-is_stop.false in
    let here = rw (c.key.ensures, c.after-k.ensures, c.turn-m.ensures) at
    c.put_line-at.ensures in
    rw (c.after-k.ensures, c.turn-m.ensures)
    (progress_on c.loop-i.invariant c.loop-i-test.true c.find-e.ensures is_stop_so here)

pub returns : goal.returns
returns c = progress_end c.loop-i.invariant (commands_end _ _ c.loop-i-test.false)
