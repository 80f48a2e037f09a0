use Rattle.lists.proofs.Kit.{sym, ◌∙◌, ne_eqb}
use Rattle.word_kinds.proofs.near.cls.Goals as goal

pub returns-then-k-eq-END : goal.returns-then-k-eq-END
returns-then-k-eq-END c = rw (sym c.kind_at-k.ensures ∙ c.if-k-eq-END.true)

pub returns-else-k-eq-END : goal.returns-else-k-eq-END
returns-else-k-eq-END c = rw (← c.kind_at-k.ensures, ne_eqb _ _ c.if-k-eq-END.false)
