use Rattle.lists.proofs.Kit.{ap, eq-eqb, ne_eqb}
use Rattle.row_offsets.specs.declared.Segment.TheVariants.{At}
use Rattle.row_offsets.proofs.segment_for_col.Goals as goal

pub returns-then-segments-ne0 : goal.returns-then-segments-ne0
returns-then-segments-ne0 c = rw (ne_eqb _ _ c.if-segments-ne0.true)

pub returns : goal.returns
returns c = rw (eq-eqb _ _ c.if-segments-ne0.false) (ap At c.index_of.ensures)
