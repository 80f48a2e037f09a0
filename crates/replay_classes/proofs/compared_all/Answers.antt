-- `compared_all` meets its contract: the number with the places first, and then the bytes. Assumes nothing.
use Rattle.lists.proofs.Kit.{sym, ap, ◌∙◌, ◌∷◌, ◌+◌, ◌-◌, arith, length, drop, length-drop, take_all, length-take-le}
use Rattle.replay_verdicts.specs.Answers.{compared}
use Rattle.replay_classes.proofs.Parts.{parts_short, parts_agree, parts_differ, parts_formed}
use Rattle.replay_classes.proofs.compared_all.Goals as goal

pub returns-then-end-n : goal.returns-then-end-n
returns-then-end-n c =
    let given = c.args in
    parts_short (given.number ∷ given.places.now) given.bytes.now given.stored.now (length given.places.now + 1) (omega arith) c.if-end-n.true

pub slice_bounds-compared-end : goal.slice_bounds-compared-end
slice_bounds-compared-end c = sym (length-take-le _ _ c.if-end-n.false)

pub returns-in-Agrees : goal.returns-in-Agrees
returns-in-Agrees c =
    let given = c.args in
    c.compared_bytes.ensures ∙ ap (compared given.bytes.now)
    (take_all (length given.stored.now - (length given.places.now + 1)) (drop (length given.places.now + 1) given.stored.now)
    (omega (arith, length-drop (length given.places.now + 1) given.stored.now)))
    ∙ parts_agree (given.number ∷ given.places.now) given.bytes.now given.stored.now (length given.places.now + 1) (omega arith)
    (sym c.compared.ensures ∙ c.in-Agrees.is)

pub returns-in-Differs : goal.returns-in-Differs
returns-in-Differs c =
    let given = c.args in
    parts_differ (given.number ∷ given.places.now) given.bytes.now given.stored.now (length given.places.now + 1) (omega arith)
    (sym c.compared.ensures ∙ c.in-Differs.is)

-- it is never malformed
pub returns-in-Malformed : goal.returns-in-Malformed
returns-in-Malformed c =
    let given = c.args in
    parts_formed (given.number ∷ given.places.now) given.bytes.now given.stored.now (length given.places.now + 1) (omega arith)
    (sym c.compared.ensures ∙ c.in-Malformed.is)
