use Rattle.lists.proofs.Kit.{eq-eqb, ne_eqb}
use Rattle.word_places.proofs.places.soft.Goals as goal

pub returns-then-k-eq-ROW_END : goal.returns-then-k-eq-ROW_END
returns-then-k-eq-ROW_END c = rw (← c.kind-k.ensures, eq-eqb _ _ c.if-k-eq-ROW_END.true)

pub returns : goal.returns
returns c = rw (← c.kind-k.ensures, ne_eqb _ _ c.if-k-eq-ROW_END.false)
