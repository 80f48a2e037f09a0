-- `layout::count_all` meets its contract. The invariant of its loop: what is counted, with the blocks that are left, comes to the whole. Assumes nothing.
use Rattle.lists.proofs.Kit.{◌≡◌, List, ℕ, ◌+◌, ◌*◌, ◌≤◌, length}
use Rattle.std.specs.Slice.Iter.{chunks_exact_rest, chunks_exact_size}
use Rattle.fold_blocks.specs.Listed.{blocks_of, count_all}
use Rattle.fold_reader.proofs.layout.count_all.Given as goal

pub record Counted (file : List ℕ) (n size : ℕ) (left : List ℕ) : Type 0 where
  pub full : size ≡ 512
  pub small : n + 128 * length left ≤ 128 * length file
  pub whole : count_all (blocks_of file) ≡ n + count_all (blocks_of left)

abbrev pub invariant-loop-block : goal.invariant-loop-block
invariant-loop-block l = Counted l.file l.n (chunks_exact_size l.block-iterator) (chunks_exact_rest l.block-iterator)
