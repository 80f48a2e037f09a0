-- `jumped` meets its contract: the tests of the definition, and the parts that it names. Assumes nothing.
use Rattle.lists.proofs.Kit.{arith, le-leb, lt-leb}
use Rattle.replay_jumps.specs.Jumps.{jump_verdict}
use Rattle.replay_jumps.proofs.jumped.Goals as goal

pub returns-then-end-lt2 : goal.returns-then-end-lt2
unfolding jump_verdict
returns-then-end-lt2 c = rw (lt-leb 2 _ c.if-end-lt2.true)

-- the counts are u32
pub overflow_cast-pairs : goal.overflow_cast-pairs
overflow_cast-pairs c = omega (arith, c.type_inv.list 0)

pub overflow_add-pairs : goal.overflow_add-pairs
overflow_add-pairs c = omega (arith, c.type_inv.list 0)

pub overflow_cast-words : goal.overflow_cast-words
overflow_cast-words c = omega (arith, c.type_inv.list 1)

pub overflow_add-words : goal.overflow_add-words
overflow_add-words c = omega (arith, c.type_inv.list 1, c.type_inv.list 0)

pub returns-then-words-end : goal.returns-then-words-end
unfolding jump_verdict
returns-then-words-end c = rw (le-leb 2 _ c.if-end-lt2.false, lt-leb _ _ c.if-words-end.true)

pub returns : goal.returns
unfolding jump_verdict
returns c =
    rw (le-leb 2 _ c.if-end-lt2.false, le-leb _ _ c.if-words-end.false) c.with_room.ensures
