-- `compared_three` meets its contract, by what stands first in the stored answer and then by the rest. Assumes nothing.
use Rattle.lists.proofs.Kit.{sym, ◌∙◌, ◌∷◌, arith, rules}
use Rattle.replay_verdicts.proofs.Comparing.{compared_none, compared_other, compared_first}
use Rattle.replay_codings.proofs.compared_three.Goals as goal

pub returns-then-stored-first : goal.returns-then-stored-first
returns-then-stored-first c =
    let given = c.args in
    compared_other given.first (given.second ∷ given.third ∷ given.places.now) given.stored.now (omega arith) c.if-stored-first.true

pub returns : goal.returns
returns c =
    let given = c.args in
    c.compared_two.ensures
    ∙ sym (compared_first given.first (given.second ∷ given.third ∷ given.places.now) given.stored.now (omega arith) c.if-stored-first.false)

pub returns-then-n-eq0 : goal.returns-then-n-eq0
returns-then-n-eq0 c = search (rules, compared_none)
