-- `layout::any_torn` meets its contract. The invariant of its loop: the blocks that are left decide. Assumes nothing.
use Rattle.lists.proofs.Kit.{◌≡◌, List, ℕ}
use Rattle.lists.specs.Lists.{any}
use Rattle.std.specs.Slice.Iter.{chunks_exact_rest, chunks_exact_size}
use Rattle.fold_blocks.specs.Listed.{blocks_of}
use Rattle.fold_blocks.specs.Layout.{is_torn}
use Rattle.fold_reader.proofs.layout.any_torn.Given as goal

pub record Passed (file : List ℕ) (size : ℕ) (left : List ℕ) : Type 0 where
  pub full : size ≡ 512
  pub same : any is_torn (blocks_of file) ≡ any is_torn (blocks_of left)

abbrev pub invariant-loop-block : goal.invariant-loop-block
invariant-loop-block l = Passed l.file (chunks_exact_size l.block-iterator) (chunks_exact_rest l.block-iterator)
