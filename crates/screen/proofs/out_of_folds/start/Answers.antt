-- `screen::out_of_folds::start` meets its contract: a fold is left where no offset is at hand. Assumes nothing.
use Rattle.lists.proofs.Kit.{refl}
use Rattle.screen.proofs.out_of_folds.start.Goals as goal

pub returns-in-None : goal.returns-in-None
returns-in-None c = rw c.in-None.is c.jump.ensures

pub returns-in-Some : goal.returns-in-Some
returns-in-Some c =
    rw c.in-Some.is (record { place = refl; line = c.requires.line; small = c.requires.small })
