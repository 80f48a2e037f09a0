-- `run::run_by` meets its contract: what was made once is what every jump goes by, and a text with no high code point needs no ranges of the letters.
-- Assumes nothing.
use Rattle.lists.proofs.Kit.{◌≡◌, sym, ◌∙◌, ℕ, arith}
use Rattle.words.proofs.Made.{made_folded}
use Rattle.jumps.proofs.Running.{ran_as}
use Rattle.jumps.proofs.run.run_by.Goals as goal

pub run_with_letters-requires : goal.run_with_letters-requires
run_with_letters-requires c =
    let required = c.requires in
    let made = c.prepare-made.ensures in
    record {
      clear = required.clear;
      tabled = required.tabled;
      small = made.is_big;
      room = made.room;
      folded = made_folded made required.folded;
      course = required.course;
    }

pub shape_of-answers-then-made : goal.shape_of-answers-then-made
shape_of-answers-then-made c = c.run_with_letters.ensures.left.size

pub returns-then-made : goal.returns-then-made
returns-then-made c =
    ran_as c.prepare-made.ensures.kinds c.run_with_letters.ensures

-- no code point is high
pub run-requires : goal.run-requires
run-requires c =
    let required = c.requires in
    let made = c.prepare-made.ensures in
    let low = made.none_high c.if-made.false in
    record {
      footing =
          record {
            clear = required.clear;
            tabled = required.tabled;
            small = made.is_big;
            round =
                record {
                  lent = record { room = made.room; lent = λ h. let never : ◌≡◌ {A = ℕ} 0 1 = cc (sym h ∙ low) in absurd (omega arith) };
                  folded = made_folded made required.folded;
                };
          };
      course = required.course;
    }

pub shape_of-answers : goal.shape_of-answers
shape_of-answers c = c.run.ensures.left.size

pub returns : goal.returns
returns c =
    ran_as c.prepare-made.ensures.kinds c.run.ensures
