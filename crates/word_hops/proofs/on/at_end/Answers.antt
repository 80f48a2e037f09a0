-- `word_hops::on::at_end` meets its contract, in the order of its tests. Assumes nothing.
use Rattle.lists.proofs.Kit.{eq-eqb, ne_eqb}
use Rattle.word_hops.specs.Hops.{at_end}
use Rattle.word_hops.proofs.on.at_end.Goals as goal

pub returns-then-k-eq-SPACE : goal.returns-then-k-eq-SPACE
unfolding at_end
returns-then-k-eq-SPACE c = rw (← c.soft-k.ensures, eq-eqb _ _ c.if-k-eq-SPACE.true)

pub returns : goal.returns
unfolding at_end
returns c = rw (← c.soft.ensures, ← c.soft-k.ensures, ne_eqb _ _ c.if-k-eq-SPACE.false)
