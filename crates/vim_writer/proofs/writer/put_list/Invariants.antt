-- `writer::put_list` meets its contract. The invariant of its loop: the list of the first i tokens is written. Assumes nothing.
use Rattle.lists.proofs.Kit.{length, List, ℕ, ◌≤◌, take}
use Rattle.print.specs.Print.{Wrote}
use Rattle.vim_grammar.specs.declared.VimToken.{VimToken}
use Rattle.vim_writer.specs.Written.{written}
use Rattle.vim_writer.proofs.writer.put_list.Given as goal

pub record Put (tokens : List VimToken) (room₀ room : List ℕ) (at i : ℕ) : Type 0 where
  pub within : i ≤ length tokens
  pub wrote : Wrote room₀ 0 (written (take i tokens)) at room

abbrev pub invariant-loop-i : goal.invariant-loop-i
invariant-loop-i l = Put l.t-items l.initial.room l.room l.at l.i
