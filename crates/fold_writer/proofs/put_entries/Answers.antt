-- `put_entries` meets its contract. The invariant of its loop: what is written, with the entries to come, comes to the whole. Assumes nothing.
use Rattle.lists.proofs.Kit.{◌∙◌, ◌++◌, arith, get_or}
use Rattle.fold_blocks.specs.Bytes.{one, four, entries}
use Rattle.fold_blocks.proofs.Files.{length_entries, entries_next, entries_few}
use Rattle.fold_blocks.proofs.Toward.{toward_room, toward_on, toward_end}
use Rattle.fold_writer.proofs.put_entries.Goals as goal

pub put_entry-next-requires : goal.put_entry-next-requires
put_entry-next-requires c =
    let step = c.in-Some.ensures.steps in
    let invariant = c.loop-fold.invariant in
    let x = c.in-Some.fold.now in
    let piece = four (get_or x 0 0) ++ four (get_or x 1 0) ++ one (get_or x 2 0) in
    omega (
      arith,
      toward_room piece (entries c.next.new.self.rest.now) invariant.toward (entries_next _ x _ step.1.0 (step.1.1 ∙ invariant.three)),
      length_entries c.args.folds.now,
      c.requires,
    )

pub loop-fold-preserved : goal.loop-fold-preserved
loop-fold-preserved c =
    let step = c.in-Some.ensures.steps in
    let invariant = c.loop-fold.invariant in
    let x = c.in-Some.fold.now in
    record {
      three = step.0 ∙ invariant.three;
      toward = toward_on (four (get_or x 0 0) ++ four (get_or x 1 0) ++ one (get_or x 2 0)) (entries c.next.new.self.rest.now) invariant.toward
          (entries_next _ x _ step.1.0 (step.1.1 ∙ invariant.three)) c.put_entry-next.ensures;
    }

pub returns : goal.returns
returns c =
    toward_end c.loop-fold.invariant.toward
    (entries_few c.loop-fold.fold-iterator.rest.now (omega (arith, c.in-None.ensures.steps, c.loop-fold.invariant.three)))
