-- `words::entry::walk_with_letters` meets its contract: the consts are the starts and the lengths of the letters' ranges. Assumes nothing.
use Rattle.lists.proofs.Kit.{refl}
use Rattle.letters.specs.Letters.{letters}
use Rattle.words.proofs.entry.walk_with_letters.Goals as goal

pub walk-requires : goal.walk-requires
unfolding letters
walk-requires c =
    record {
      lent = record { room = c.requires.room; lent = λ h. record { starts_are = refl; lengths_are = refl } };
      folded = c.requires.folded;
    }
