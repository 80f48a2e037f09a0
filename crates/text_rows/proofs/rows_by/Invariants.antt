-- `text_rows::rows_by` meets its contract. The invariant of its loop: what is known of a text that was passed over up to what the walk has left.
-- Assumes nothing.
use Rattle.lists.proofs.Kit.{List, ℕ, ◌≤◌}
use Rattle.std.specs.Slice.Iter.{chunks_rest, chunks_size}
use Rattle.text_rows.proofs.Stretches.{Passed}
use Rattle.text_rows.proofs.rows_by.Given as goal

pub record Passing (t starts : List ℕ) (rows : ℕ) (rest : List ℕ) (size : ℕ) : Type 0 where
  pub passed : Passed t starts rows rest
  pub small : size ≤ 4096

abbrev pub invariant-loop-part : goal.invariant-loop-part
invariant-loop-part l = Passing l.t l.starts l.rows (chunks_rest l.part-iterator) (chunks_size l.part-iterator)
