-- `folds::folds::fold_refusal` meets its contract. The invariant of its loop: the folds that are left decide. Assumes nothing.
use Rattle.lists.proofs.Kit.{◌≡◌, List, ℕ}
use Rattle.std.specs.Slice.Iter.{chunks_exact_rest, chunks_exact_size}
use Rattle.folds.specs.Folds.{any_fold, bad_fold}
use Rattle.folds.proofs.folds.fold_refusal.Given as goal

pub record Passed (folds : List ℕ) (rows size : ℕ) (left : List ℕ) : Type 0 where
  pub three : size ≡ 3
  pub rest : any_fold (bad_fold rows) folds ≡ any_fold (bad_fold rows) left

abbrev pub invariant-loop-fold : goal.invariant-loop-fold
invariant-loop-fold l = Passed l.folds l.rows (chunks_exact_size l.fold-iterator) (chunks_exact_rest l.fold-iterator)
