-- `head_of` meets its contract: the numbers in their order. Assumes nothing.
use Rattle.lists.proofs.Kit.{refl}
use Rattle.replay_rows.specs.Cases.{head_of}
use Rattle.replay_rows.proofs.cases.head_of.Goals as goal

pub returns : goal.returns
unfolding head_of
returns c = refl
