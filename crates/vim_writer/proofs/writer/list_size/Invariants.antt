-- `writer::list_size` meets its contract. The invariant of its loop: n is the length of the first i tokens' list. Assumes nothing.
use Rattle.lists.proofs.Kit.{◌≡◌, List, ℕ, ◌≤◌, length, take}
use Rattle.vim_grammar.specs.declared.VimToken.{VimToken}
use Rattle.vim_writer.specs.Written.{written}
use Rattle.vim_writer.proofs.writer.list_size.Given as goal

pub record Sized (tokens : List VimToken) (n i : ℕ) : Type 0 where
  pub within : i ≤ length tokens
  pub size : n ≡ length (written (take i tokens))

abbrev pub invariant-loop-i : goal.invariant-loop-i
invariant-loop-i l = Sized l.t-items l.n l.i
