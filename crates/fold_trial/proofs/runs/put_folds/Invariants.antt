-- `put_folds` meets its contract. The invariant of its loop: what is written, with the numbers to come and the row's end, comes to the row.
-- Assumes nothing.
use Rattle.lists.proofs.Kit.{List, [], ◌∷◌, ◌++◌, ℕ, ◌≤◌, length, drop}
use Rattle.fold_blocks.proofs.Toward.{Toward}
use Rattle.fold_trial.specs.Runs.{spaced}
use Rattle.fold_trial.proofs.runs.put_folds.Given as goal

pub record Put (out₀ folds : List ℕ) (at₀ : ℕ) (out : List ℕ) (at i : ℕ) : Type 0 where
  pub within : i ≤ length folds
  pub toward : Toward out₀ at₀ (spaced folds ++ (10 ∷ [])) out at (spaced (drop i folds) ++ (10 ∷ []))

abbrev pub invariant-loop-x : goal.invariant-loop-x
invariant-loop-x l = Put l.initial.out l.folds l.initial.at l.out l.at l.x-index
