-- `session::put_line` meets its contract: the line's pieces, one after another. Assumes nothing.
use Rattle.lists.proofs.Kit.{arith}
use Rattle.session.specs.Session.{shown_of}
use Rattle.session.proofs.Lengths.{length_line, wrote_line}
use Rattle.session.proofs.put_line.Goals as goal

pub put_shown-a-requires : goal.put_shown-a-requires
put_shown-a-requires c =
    let given = c.args in
    omega (arith, length_line (shown_of given.key.now given.m) given.k)

pub put-b-requires : goal.put-b-requires
put-b-requires c =
    let given = c.args in
    omega (arith, length_line (shown_of given.key.now given.m) given.k)

pub put_decimal-c-requires : goal.put_decimal-c-requires
put_decimal-c-requires c =
    let given = c.args in
    omega (arith, length_line (shown_of given.key.now given.m) given.k)

pub put-d-requires : goal.put-d-requires
put-d-requires c =
    let given = c.args in
    omega (arith, length_line (shown_of given.key.now given.m) given.k)

pub put_decimal-e-requires : goal.put_decimal-e-requires
put_decimal-e-requires c =
    let given = c.args in
    omega (arith, length_line (shown_of given.key.now given.m) given.k)

pub put-requires : goal.put-requires
put-requires c =
    let given = c.args in
    omega (arith, length_line (shown_of given.key.now given.m) given.k)

pub returns : goal.returns
returns c =
    let given = c.args in
    wrote_line (shown_of given.key.now given.m) given.k c.put_shown-a.ensures c.put-b.ensures
    c.put_decimal-c.ensures c.put-d.ensures c.put_decimal-e.ensures c.put.ensures
