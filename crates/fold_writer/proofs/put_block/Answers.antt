-- `put_block` meets its contract: the sum is taken of what was written. Assumes nothing.
use Rattle.lists.proofs.Kit.{ap, ◌∙◌, arith, length}
use Rattle.fold_blocks.specs.Bytes.{sum}
use Rattle.fold_blocks.proofs.Files.{length_body}
use Rattle.fold_writer.proofs.Writes.{wrote_part, wrote_block}
use Rattle.fold_writer.proofs.put_block.Goals as goal

pub slice_bounds-sum-end : goal.slice_bounds-sum-end
slice_bounds-sum-end c =
    let given = c.args in
    omega (arith, c.put_body-end.ensures, length_body given.n given.k given.folds.now c.requires.few, c.requires.room)

pub sum-sum-requires : goal.sum-sum-requires
sum-sum-requires c =
    let given = c.args in
    let long = length_body given.n given.k given.folds.now c.requires.few in
    omega (arith, long, ap length (wrote_part c.put_body-end.ensures (omega (arith, long, c.requires.room))))

pub put_two-requires : goal.put_two-requires
put_two-requires c =
    let given = c.args in
    omega (arith, c.put_body-end.ensures, length_body given.n given.k given.folds.now c.requires.few, c.requires.room)

pub returns : goal.returns
returns c =
    let given = c.args in
    let long = length_body given.n given.k given.folds.now c.requires.few in
    let first = c.put_body-end.ensures in
    let part = wrote_part first (omega (arith, long, c.requires.room)) in
    wrote_block given.n given.k given.folds.now c.sum-sum.result first (c.sum-sum.ensures ∙ ap sum part) c.put_two.ensures
