-- `folds::folds::cover` meets its contract. The invariant of its loop: the folds that are left decide. Assumes nothing.
use Rattle.lists.proofs.Kit.{◌≡◌, List, ℕ}
use Rattle.std.specs.Slice.Iter.{chunks_exact_rest, chunks_exact_size}
use Rattle.folds.specs.Cover.{cover_of}
use Rattle.folds.proofs.folds.cover.Given as goal

pub record Passed (folds : List ℕ) (row size : ℕ) (left : List ℕ) : Type 0 where
  pub three : size ≡ 3
  pub rest : cover_of folds row ≡ cover_of left row

abbrev pub invariant-loop-fold : goal.invariant-loop-fold
invariant-loop-fold l = Passed l.folds l.row (chunks_exact_size l.fold-iterator) (chunks_exact_rest l.fold-iterator)
