-- `word_hops::on::from_end` meets its contract: small words go on at once, big ones over the row ends first. Assumes nothing.
use Rattle.lists.proofs.Kit.{ap, sym, ◌∙◌}
use Rattle.word_hops.specs.Hops.{then_space}
use Rattle.word_hops.proofs.Hopping.{from_small, from_big}
use Rattle.word_hops.proofs.on.from_end.Goals as goal

pub returns-then-not-big : goal.returns-then-not-big
returns-then-not-big c =
    let given = c.args in
    c.over_space.ensures ∙ from_small given.c.now given.big given.i (c.if-not-big.true)

pub returns-in-Onto : goal.returns-in-Onto
returns-in-Onto c =
    let given = c.args in
    c.over_space-in-Onto.ensures ∙ ap (then_space given.c.now given.big) (sym c.in-Onto.is ∙ c.over.ensures)
    ∙ from_big given.c.now given.big given.i (c.if-not-big.false)

pub returns-in-Stuck : goal.returns-in-Stuck
returns-in-Stuck c =
    let given = c.args in
    ap (then_space given.c.now given.big) (sym c.in-Stuck.is ∙ c.over.ensures)
    ∙ from_big given.c.now given.big given.i (c.if-not-big.false)
