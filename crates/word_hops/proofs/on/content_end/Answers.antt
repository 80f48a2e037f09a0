-- `word_hops::on::content_end` meets its contract: the row before an empty last one ends one place before it. Assumes nothing.
use Rattle.lists.proofs.Kit.{sym, ◌∙◌, arith}
use Rattle.word_hops.specs.Hops.{content_end}
use Rattle.word_hops.proofs.Hopping.{last_there}
use Rattle.word_hops.proofs.on.content_end.Goals as goal

pub overflow_sub-result : goal.overflow_sub-result
overflow_sub-result c =
    omega (arith, c.text_end-end.ensures, last_there c.args.c.now (sym c.last_empty.ensures ∙ c.if-last_empty.true))

pub returns-then-last_empty : goal.returns-then-last_empty
unfolding content_end
returns-then-last_empty c = rw (sym c.last_empty.ensures ∙ c.if-last_empty.true, ← c.text_end-end.ensures)

pub returns : goal.returns
unfolding content_end
returns c = rw (sym c.last_empty.ensures ∙ c.if-last_empty.false) c.text_end-end.ensures
