-- `put_entries` meets its contract. The invariant of its loop: what is written, with the entries to come, comes to the whole. Assumes nothing.
use Rattle.lists.proofs.Kit.{◌≡◌, List, ℕ}
use Rattle.std.specs.Slice.Iter.{chunks_exact_rest, chunks_exact_size}
use Rattle.fold_blocks.specs.Bytes.{entries}
use Rattle.fold_blocks.proofs.Toward.{Toward}
use Rattle.fold_writer.proofs.put_entries.Given as goal

pub record Put (out₀ : List ℕ) (at : ℕ) (folds out : List ℕ) (next size : ℕ) (left : List ℕ) : Type 0 where
  pub three : size ≡ 3
  pub toward : Toward out₀ at (entries folds) out next (entries left)

abbrev pub invariant-loop-fold : goal.invariant-loop-fold
invariant-loop-fold l = Put l.initial.out l.at l.folds l.out l.next (chunks_exact_size l.fold-iterator) (chunks_exact_rest l.fold-iterator)
