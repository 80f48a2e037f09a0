-- `plain::plain_told` meets its contract, by the cases of the answer. Assumes nothing.
use Rattle.lists.proofs.Kit.{ap, sym, arith}
use Rattle.call_signs.proofs.Bounds.{told_of, plain_told_lem, plain_size}
use Rattle.call_signs.proofs.plain.plain_told.Goals as goal

pub overflow_cast-result : goal.overflow_cast-result
overflow_cast-result c =
    let given = c.args in
    let most = plain_size given.list.now given.written.now c.without_plus.result c.without_plus.new.room
    (c.without_plus.ensures.value, c.without_plus.ensures.room_after) c.in-Made.n c.in-Made.is in
    omega (arith, most)

pub returns-in-Made : goal.returns-in-Made
unfolding told_of
returns-in-Made c =
    let given = c.args in
    let told =
    plain_told_lem given.list.now given.written.now c.without_plus.result c.without_plus.new.room
    (c.without_plus.ensures.value, c.without_plus.ensures.room_after) _ (sym (ap told_of c.in-Made.is)) in
    record { value = told.0; written_after = told.1 }

pub returns-in-Refused : goal.returns-in-Refused
unfolding told_of
returns-in-Refused c =
    let given = c.args in
    let told =
    plain_told_lem given.list.now given.written.now c.without_plus.result c.without_plus.new.room
    (c.without_plus.ensures.value, c.without_plus.ensures.room_after) _ (sym (ap told_of c.in-Refused.is)) in
    record { value = told.0; written_after = told.1 }
