-- `move_starts` meets its contract. The invariant of its loop: the starts before the one that it has come to are moved. Assumes nothing.
use Rattle.lists.proofs.Kit.{◌+◌, arith, get_or}
use Rattle.std.proofs.lemmas.List.{get_or_default}
use Rattle.std.proofs.lemmas.List.Edits.{map_over_more}
use Rattle.edit_starts.specs.Moved.{moved_start}
use Rattle.edit_starts.proofs.Moving.{mapped_read, mapped_over}
use Rattle.edit_starts.proofs.move_starts.Goals as goal

-- the start that is read is still the one of before
pub overflow_sub-s : goal.overflow_sub-s
overflow_sub-s c =
    let at_loop = c.loop-s in
    let given = c.args in
    let read = mapped_read (moved_start given.less given.more) given.starts.now given.from given.to at_loop.s-index c.requires.order c.requires.within
    c.loop-s-test.true at_loop.invariant in
    omega (arith, read.1, c.requires.moves.room (given.from + at_loop.s-index) (omega arith) read.0)

pub overflow_add-s : goal.overflow_add-s
overflow_add-s c =
    let at_loop = c.loop-s in
    let given = c.args in
    let read = mapped_read (moved_start given.less given.more) given.starts.now given.from given.to at_loop.s-index c.requires.order c.requires.within
    c.loop-s-test.true at_loop.invariant in
    omega (arith, read.1, c.requires.moves.room (given.from + at_loop.s-index) (omega arith) read.0)

pub loop-s-preserved : goal.loop-s-preserved
loop-s-preserved c =
    let at_loop = c.loop-s in
    map_over_more (moved_start c.args.less c.args.more) _ _ at_loop.s-index (get_or at_loop.s-items at_loop.s-index 0) (omega arith) at_loop.invariant (get_or_default at_loop.s-items at_loop.s-index 0 _ (omega arith))

pub returns : goal.returns
returns c = mapped_over (moved_start c.args.less c.args.more) c.args.starts.now c.args.from c.args.to _ c.requires.order c.requires.within c.loop-s-test.false c.loop-s.invariant
