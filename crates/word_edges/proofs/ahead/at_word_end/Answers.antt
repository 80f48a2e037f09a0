-- `word_edges::ahead::at_word_end` meets its contract: a place with a class is on a character, so that the next place is in its row. Assumes nothing.
use Rattle.lists.proofs.Kit.{◌∙◌, eq-eqb, ne_eqb}
use Rattle.word_edges.specs.Words.{at_word_end}
use Rattle.word_kinds.proofs.Ahead.{class_there, char_spot, char_col_lem}
use Rattle.word_edges.proofs.ahead.at_word_end.Goals as goal

pub returns-then-k-eq-SPACE : goal.returns-then-k-eq-SPACE
unfolding at_word_end
returns-then-k-eq-SPACE c = rw (← c.cls-k.ensures, eq-eqb _ _ c.if-k-eq-SPACE.true)

pub cls-requires : goal.cls-requires
cls-requires c =
    let required = c.requires in
    let by_class_there = class_there c.args.t.now c.args.p required.spot _
    (λ z. c.if-k-eq-SPACE.false (c.cls-k.ensures ∙ z)) in
    (required.lent, char_spot c.args.t.now c.args.p required.spot by_class_there.0 by_class_there.1)

pub returns : goal.returns
unfolding at_word_end
returns c =
    let required = c.requires in
    let by_class_there = class_there c.args.t.now c.args.p required.spot _
    (λ z. c.if-k-eq-SPACE.false (c.cls-k.ensures ∙ z)) in
    rw (
      ← c.cls-k.ensures,
      ne_eqb _ _ c.if-k-eq-SPACE.false,
      ← char_col_lem c.args.t.now c.args.p required.spot by_class_there.0 by_class_there.1,
      ← c.cls.ensures,
    )
