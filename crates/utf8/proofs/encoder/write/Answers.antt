-- `encoder::write` meets its contract. The invariant of its loop: what is written, with what is left of the text, comes to the whole. Assumes nothing.
use Rattle.lists.proofs.Kit.{refl, arith}
use Rattle.utf8.proofs.Puts.{laying_room, laying_on, laying_end}
use Rattle.utf8.proofs.encoder.write.Goals as goal

pub loop-x-init : goal.loop-x-init
loop-x-init c = record { within = omega arith; scalar = c.requires.scalar; total = omega arith; whole = refl; size = refl }

pub put-at-requires : goal.put-at-requires
put-at-requires c =
    laying_room c.loop-x.invariant c.loop-x-test.true c.requires.room

-- a code point more
pub loop-x-preserved : goal.loop-x-preserved
loop-x-preserved c =
    laying_on c.loop-x.invariant c.loop-x-test.true c.put-at.ensures

pub returns : goal.returns
returns c = laying_end c.loop-x.invariant c.loop-x-test.false

pub shape_of-bytes : goal.shape_of-bytes
shape_of-bytes c = c.loop-x.invariant.size
