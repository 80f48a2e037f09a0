-- `answers::compared` meets its contract, by what stands first in the stored answer and then by the rest. Assumes nothing.
use Rattle.lists.proofs.Kit.{sym, ◌∙◌, arith, rules}
use Rattle.replay_verdicts.proofs.Comparing.{compared_none, compared_other, compared_rest}
use Rattle.replay_verdicts.proofs.answers.compared.Goals as goal

pub returns-then-stored-number : goal.returns-then-stored-number
returns-then-stored-number c =
    let given = c.args in
    compared_other given.number given.places.now given.stored.now (omega arith) c.if-stored-number.true

pub returns-then-eq : goal.returns-then-eq
returns-then-eq c =
    let given = c.args in
    sym (compared_rest given.number given.places.now given.stored.now (omega arith) c.if-stored-number.false c.eq.ensures ∙ rw c.if-eq.true)

pub returns : goal.returns
returns c =
    let given = c.args in
    sym (compared_rest given.number given.places.now given.stored.now (omega arith) c.if-stored-number.false c.eq.ensures ∙ rw c.if-eq.false)

pub returns-then-n-eq0 : goal.returns-then-n-eq0
returns-then-n-eq0 c = search (rules, compared_none)
