-- `word_hops::back::prev_end` meets its contract, in the order of its tests. Assumes nothing.
use Rattle.lists.proofs.Kit.{eq-eqb, ne_eqb}
use Rattle.word_places.proofs.Walking.{backward_none, backward_on}
use Rattle.word_hops.specs.Hops.{prev_end}
use Rattle.word_hops.proofs.back.prev_end.Goals as goal

pub returns-then-i-eq0 : goal.returns-then-i-eq0
unfolding prev_end
returns-then-i-eq0 c = rw (backward_none _ c.if-i-eq0.true)

pub returns-then-k-eq-SPACE : goal.returns-then-k-eq-SPACE
unfolding prev_end
returns-then-k-eq-SPACE c =
    rw (backward_on _ c.if-i-eq0.false, ← c.soft-k.ensures, eq-eqb _ _ c.if-k-eq-SPACE.true) c.back_over_space.ensures

pub returns : goal.returns
unfolding prev_end
returns c =
    rw (backward_on _ c.if-i-eq0.false, ← c.soft-k.ensures, ne_eqb _ _ c.if-k-eq-SPACE.false) c.back_from.ensures
