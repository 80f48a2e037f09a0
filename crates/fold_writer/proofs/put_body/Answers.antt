-- `put_body` meets its contract: one piece after another. Assumes nothing.
use Rattle.lists.proofs.Kit.{arith}
use Rattle.print.proofs.Laws.{wrote_then}
use Rattle.fold_blocks.specs.Files.{body}
use Rattle.fold_blocks.proofs.Files.{length_entries}
use Rattle.fold_writer.proofs.Writes.{length_zeros}
use Rattle.fold_writer.proofs.put_body.Goals as goal

pub put_zeros-total-requires : goal.put_zeros-total-requires
put_zeros-total-requires c =
    omega (arith, length_entries c.args.folds.now, c.put_entries-unused.ensures, c.put_two-listed.ensures, c.requires)

pub put_two-requires : goal.put_two-requires
put_two-requires c =
    omega (
      arith,
      length_entries c.args.folds.now,
      length_zeros c.args.folds.now,
      c.put_zeros-total.ensures,
      c.put_entries-unused.ensures,
      c.put_two-listed.ensures,
      c.requires,
    )

pub returns : goal.returns
unfolding body
returns c =
    let counts = wrote_then c.put_two-counted.ensures c.put_two-listed.ensures in
    wrote_then (wrote_then (wrote_then counts c.put_entries-unused.ensures) c.put_zeros-total.ensures) c.put_two.ensures
