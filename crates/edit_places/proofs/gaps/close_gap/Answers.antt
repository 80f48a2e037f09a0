-- `gaps::close_gap` meets its contract: what `close_up` leaves, with zeros put behind it. Assumes nothing.
use Rattle.lists.proofs.Kit.{arith}
use Rattle.edit_places.proofs.Closing.{deleted}
use Rattle.edit_places.proofs.gaps.close_gap.Goals as goal

pub returns : goal.returns
returns c =
    let given = c.args in
    deleted (given.buf).now given.len given.a (omega arith) given.b (omega arith) (omega arith) c.close_up.ensures c.put_zeros.ensures
    (omega arith) (omega arith)
