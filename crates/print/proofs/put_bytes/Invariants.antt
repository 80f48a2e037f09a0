-- `print::put_bytes` meets its contract. The invariant of its loop: the first i bytes are written. Assumes nothing.
use Rattle.lists.proofs.Kit.{List, ℕ, ◌+◌, ◌≤◌, length, take}
use Rattle.print.specs.Print.{Wrote}
use Rattle.print.proofs.put_bytes.Given as goal

pub record Put (out₀ : List ℕ) (at : ℕ) (s out : List ℕ) (i : ℕ) : Type 0 where
  pub within : i ≤ length s
  pub wrote : Wrote out₀ at (take i s) (at + i) out

abbrev pub invariant-loop-i : goal.invariant-loop-i
invariant-loop-i l = Put l.initial.out l.at l.s l.out l.i
