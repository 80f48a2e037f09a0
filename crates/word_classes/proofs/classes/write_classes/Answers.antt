-- `word_classes::classes::write_classes` meets its contract. The invariant of its loop: the places before i are written. Assumes nothing.
use Rattle.lists.proofs.Kit.{arith}
use Rattle.word_classes.proofs.Writing.{writing_start, writing_end, writing_char, written, scalar_there}
use Rattle.word_classes.proofs.classes.write_classes.Goals as goal
use Rattle.word_classes.proofs.classes.write_classes.Goals.{then-x-eq10, else-x-eq10}

pub loop-i-init : goal.loop-i-init
loop-i-init c = writing_start _ _ _

pub char_class-requires : goal.char_class-requires
char_class-requires c =
    record {
      scalar = scalar_there c.args.t.now _ c.requires.clear (omega (arith, c.loop-i-test.true));
      short = c.requires.short;
    }

-- a separator, and a character
pub loop-i-preserved : goal.loop-i-preserved
loop-i-preserved c =
    elim c.if-x-eq10.branch [
      | then-x-eq10 w ↦ rw (w.classes-is, w.first-is) (writing_end c.loop-i.invariant (omega (arith, c.loop-i-test.true)) w.if-x-eq10.true w.end_class.ensures)
      | else-x-eq10 w ↦ rw (w.classes-is, w.first-is) (writing_char c.loop-i.invariant (omega (arith, c.loop-i-test.true)) w.if-x-eq10.false w.char_class.ensures)
    ]

-- the text's end
pub returns : goal.returns
returns c =
    written c.loop-i.invariant c.loop-i-test.false c.requires.places c.end_class-last.ensures
