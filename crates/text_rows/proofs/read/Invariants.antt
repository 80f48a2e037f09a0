-- `text_rows::read` meets its contract. The invariant of its loop: the marks found so far and those still to come are all, and so are the bits.
-- Assumes nothing.
use Rattle.lists.proofs.Kit.{◌≡◌, List, ℕ, ◌+◌, ◌≤◌, length, drop}
use Rattle.text_rows.specs.Pass.{marks_in, all_bits}
use Rattle.text_rows.proofs.read.Given as goal

pub record Read (t : List ℕ) (bits n i : ℕ) : Type 0 where
  pub within : i ≤ length t
  pub few : n ≤ i
  pub marks : marks_in t ≡ n + marks_in (drop i t)
  pub all_bits : all_bits 0 t ≡ all_bits bits (drop i t)

abbrev pub invariant-loop-x : goal.invariant-loop-x
invariant-loop-x l = Read l.t l.bits l.n l.x-index
