-- `chars::white::high_white` meets its contract: the const is the list of the definition. Assumes nothing.
use Rattle.lists.proofs.Kit.{refl}
use Rattle.chars.specs.White.{whites}
use Rattle.chars.proofs.white.high_white.Goals as goal

pub white_in-requires : goal.white_in-requires
unfolding whites
white_in-requires c = refl
