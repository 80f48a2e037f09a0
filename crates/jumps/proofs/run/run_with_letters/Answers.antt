-- `run::run_with_letters` meets its contract: the consts are the starts and the lengths of the letters' ranges. Assumes nothing.
use Rattle.lists.proofs.Kit.{refl}
use Rattle.letters.specs.Letters.{letters}
use Rattle.jumps.proofs.run.run_with_letters.Goals as goal

pub run-requires : goal.run-requires
unfolding letters
run-requires c =
    let required = c.requires in
    record {
      footing =
          record {
            clear = required.clear;
            tabled = required.tabled;
            small = required.small;
            round = record { lent = record { room = required.room; lent = λ h. record { starts_are = refl; lengths_are = refl } }; folded = required.folded };
          };
      course = required.course;
    }

pub shape_of-answers : goal.shape_of-answers
shape_of-answers c = c.run.ensures.left.size

pub returns : goal.returns
returns c = c.run.ensures
