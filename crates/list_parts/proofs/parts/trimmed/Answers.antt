-- `list_parts::parts::trimmed` meets its contract: both ends are trimmed by the table WHITE, the start first. Assumes nothing.
use Rattle.lists.proofs.Kit.{refl, sym, length-take-le}
use Rattle.chars.specs.White.{whites}
use Rattle.list_parts.proofs.TrimLaws.{trim_is}
use Rattle.list_parts.proofs.parts.trimmed.Goals as goal

pub trim_start-s-requires : goal.trim_start-s-requires
unfolding whites
trim_start-s-requires c = refl

pub trim_end-e-requires : goal.trim_end-e-requires
unfolding whites
trim_end-e-requires c = refl

pub slice_bounds-result-end : goal.slice_bounds-result-end
slice_bounds-result-end c = sym (length-take-le c.trim_end-e.result _ c.trim_end-e.ensures.inside)

pub returns : goal.returns
returns c = trim_is _ _ _ c.trim_start-s.ensures c.trim_end-e.ensures
