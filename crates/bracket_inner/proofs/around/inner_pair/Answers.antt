-- `inner_pair` meets its contract: the checks, and then the innermost pair around the position's offset. Assumes nothing.
use Rattle.lists.proofs.Kit.{◌+◌, arith}
use Rattle.bracket_inner.specs.Walk.{Stays}
use Rattle.bracket_inner.proofs.Call.{call_refused, call_stays, call_answer}
use Rattle.bracket_inner.proofs.around.inner_pair.Goals as goal

pub returns-then-e-ne0 : goal.returns-then-e-ne0
returns-then-e-ne0 c =
    let given = c.args in
    call_refused given.t.now given.k given.row given.col c.enter-e.ensures c.if-e-ne0.true

pub overflow_add-e : goal.overflow_add-e
overflow_add-e c =
    let stays : let given = c.args in
    Stays given.t.now (record { row = given.row; start = c.enter-e.result.start }) (c.enter-e.result.start + given.col)
    (record { row = given.row; col = given.col }) =
    let given = c.args in
    call_stays given.t.now given.k given.row given.col c.enter-e.ensures c.if-e-ne0.false in
    let here = stays in omega (arith, here.stands.within, here.short)

pub returns : goal.returns
returns c =
    let given = c.args in
    call_answer given.t.now given.k given.row given.col c.enter-e.ensures c.if-e-ne0.false c.pair_around.ensures

pub pair_around-requires : goal.pair_around-requires
pair_around-requires c =
    let stays : let given = c.args in
    Stays given.t.now (record { row = given.row; start = c.enter-e.result.start }) (c.enter-e.result.start + given.col)
    (record { row = given.row; col = given.col }) =
    let given = c.args in
    call_stays given.t.now given.k given.row given.col c.enter-e.ensures c.if-e-ne0.false in
    stays
