-- `entries::take_entries` meets its contract. The invariant of its loop: what is written, with the entries to come, comes to the whole. Assumes nothing.
use Rattle.lists.proofs.Kit.{List, ℕ, ◌≤◌, drop}
use Rattle.fold_blocks.specs.Bytes.{entries_in}
use Rattle.fold_blocks.proofs.Toward.{Toward}
use Rattle.fold_reader.proofs.Takes.{entries_from}
use Rattle.fold_reader.proofs.entries.take_entries.Given as goal

pub record Taken (block : List ℕ) (count : ℕ) (out₀ : List ℕ) (at : ℕ) (out : List ℕ) (next i : ℕ) : Type 0 where
  pub within : i ≤ count
  pub toward : Toward out₀ at (entries_in count (drop 4 block)) out next (entries_from block count i)

abbrev pub invariant-loop-i : goal.invariant-loop-i
invariant-loop-i l = Taken l.block l.count l.initial.out l.at l.out l.next l.i
