-- `layout::broken` meets its contract. The invariant of its loop: the blocks that are left decide. Assumes nothing.
use Rattle.lists.proofs.Kit.{◌≡◌, List, ℕ, ◌+◌, ◌*◌, length}
use Rattle.std.specs.Slice.Iter.{chunks_exact_rest, chunks_exact_size}
use Rattle.std.specs.Iterator.Adapters.{enumerate_source, enumerate_count}
use Rattle.fold_blocks.specs.Listed.{blocks_of}
use Rattle.fold_blocks.specs.Layout.{is_broken, broken}
use Rattle.fold_reader.proofs.layout.broken.Given as goal

pub record Passed (file : List ℕ) (many n k size : ℕ) (left : List ℕ) : Type 0 where
  pub full : size ≡ 512
  pub few : 512 * k + length left ≡ length file
  pub same : is_broken file ≡ broken many n k (blocks_of left)

abbrev pub invariant-loop-k : goal.invariant-loop-k
invariant-loop-k l =
    let source = enumerate_source l.k-iterator in
    Passed l.file l.many l.n (enumerate_count l.k-iterator) (chunks_exact_size source) (chunks_exact_rest source)
