-- `letters::high_letter` meets its contract: the consts are the starts and the lengths of its ranges. Assumes nothing.
use Rattle.lists.proofs.Kit.{refl}
use Rattle.letters.specs.Letters.{letters}
use Rattle.letters.proofs.high_letter.Goals as goal

pub letter_in-requires : goal.letter_in-requires
unfolding letters
letter_in-requires c = record { starts_are = refl; lengths_are = refl }
