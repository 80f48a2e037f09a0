-- `points::put_ascii` meets its contract. The invariant of its loop: the first i characters are written. Assumes nothing.
use Rattle.lists.proofs.Kit.{List, ℕ, ◌+◌, ◌≤◌, take}
use Rattle.print.specs.Print.{Wrote}
use Rattle.vim_writer.proofs.points.put_ascii.Given as goal

pub record Put (out₀ : List ℕ) (at : ℕ) (s : List ℕ) (n : ℕ) (out : List ℕ) (i : ℕ) : Type 0 where
  pub within : i ≤ n
  pub wrote : Wrote out₀ at (take i s) (at + i) out

abbrev pub invariant-loop-i : goal.invariant-loop-i
invariant-loop-i l = Put l.initial.out l.at l.s l.n l.out l.i
