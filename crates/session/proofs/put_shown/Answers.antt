-- `session::put_shown` meets its contract, by the cases of the answer. Assumes nothing.
use Rattle.lists.proofs.Kit.{ap, arith, length}
use Rattle.print.proofs.Laws.{wrote_then}
use Rattle.session.proofs.Lengths.{shown_to, shown_unknown, shown_refused}
use Rattle.session.proofs.put_shown.Goals as goal

-- the key
pub put_bytes-requires : goal.put_bytes-requires
put_bytes-requires c =
    omega (arith, ap length (shown_to c.args.key.now _ c.in-To.is))

pub returns-in-To : goal.returns-in-To
returns-in-To c =
    rw (shown_to c.args.key.now _ c.in-To.is) c.put_bytes.ensures

-- `?`
pub put-requires : goal.put-requires
put-requires c =
    omega (arith, ap length (shown_unknown c.args.key.now _ c.in-Refused.is c.if-f-eq0.true))

pub returns-then-f-eq0 : goal.returns-then-f-eq0
returns-then-f-eq0 c =
    rw (shown_unknown c.args.key.now _ c.in-Refused.is c.if-f-eq0.true) c.put.ensures

-- `!` and the number
pub put-next-requires : goal.put-next-requires
put-next-requires c =
    omega (arith, ap length (shown_refused c.args.key.now _ c.in-Refused.is c.if-f-eq0.false))

pub put_decimal-requires : goal.put_decimal-requires
put_decimal-requires c =
    omega (arith, ap length (shown_refused c.args.key.now _ c.in-Refused.is c.if-f-eq0.false))

pub returns-else-f-eq0 : goal.returns-else-f-eq0
returns-else-f-eq0 c =
    rw (shown_refused c.args.key.now _ c.in-Refused.is c.if-f-eq0.false)
    (wrote_then c.put-next.ensures c.put_decimal.ensures)
