-- `put_blocks` meets its contract. The invariant of its loop: the folds before index `from` are written. Assumes nothing.
use Rattle.fold_writer.proofs.Laying.{laying_start, laying_room, laying_on, laying_end, part_most}
use Rattle.fold_writer.proofs.put_blocks.Goals as goal

pub loop-k-init : goal.loop-k-init
loop-k-init c = laying_start _ _ _ c.blocks_for-many.ensures

pub put_block-at-requires : goal.put_block-at-requires
put_block-at-requires c =
    record {
      few = part_most c.args.folds.now c.loop-k.from c.end_of-to.result c.end_of-to.ensures;
      room = laying_room c.loop-k.invariant c.loop-k-test.true c.requires.room;
    }

pub loop-k-preserved : goal.loop-k-preserved
loop-k-preserved c =
    laying_on c.loop-k.invariant c.loop-k-test.true c.end_of-to.ensures c.put_block-at.ensures

pub returns : goal.returns
returns c = laying_end c.loop-k.invariant c.loop-k-test.false
