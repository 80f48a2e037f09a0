use Rattle.lists.proofs.Kit.{ap, leb}
use Rattle.word_places.proofs.places.is_end.Goals as goal

pub returns : goal.returns
returns c = ap (leb 3) c.class_at.ensures
