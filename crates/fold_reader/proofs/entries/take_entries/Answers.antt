-- `entries::take_entries` meets its contract. The invariant of its loop: what is written, with the entries to come, comes to the whole. Assumes nothing.
use Rattle.lists.proofs.Kit.{◌+◌, ◌*◌, arith, drop}
use Rattle.fold_blocks.specs.Bytes.{entry_at}
use Rattle.fold_blocks.proofs.Rules.{length_entries_in}
use Rattle.fold_blocks.proofs.Toward.{toward_room, toward_on, toward_end}
use Rattle.fold_reader.proofs.Takes.{entries_from, entries_on, entries_done}
use Rattle.fold_reader.proofs.entries.take_entries.Goals as goal

pub take_entry-next-requires : goal.take_entry-next-requires
take_entry-next-requires c =
    let given = c.args in
    let block_now = given.block.now in
    let index = c.loop-i.i in
    let here = entries_on block_now given.count index c.loop-i-test.true in
    record {
      there = omega (arith, c.requires.there, c.loop-i-test.true);
      room = omega (
        arith,
        toward_room (entry_at block_now (4 + 9 * index)) (entries_from block_now given.count (index + 1)) c.loop-i.invariant.toward here,
        length_entries_in given.count (drop 4 block_now),
        c.requires.room,
      );
    }

pub loop-i-preserved : goal.loop-i-preserved
loop-i-preserved c =
    let given = c.args in
    let block_now = given.block.now in
    let index = c.loop-i.i in
    let tested = c.loop-i-test.true in
    record {
      within = omega (arith, tested);
      toward = toward_on (entry_at block_now (4 + 9 * index)) (entries_from block_now given.count (index + 1)) c.loop-i.invariant.toward
          (entries_on block_now given.count index tested) c.take_entry-next.ensures;
    }

pub returns : goal.returns
returns c =
    let given = c.args in
    toward_end c.loop-i.invariant.toward (entries_done given.block.now given.count c.loop-i.i c.loop-i-test.false)
