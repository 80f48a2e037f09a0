-- `vim_reader::VimSpec::holds` meets its contract. The invariant of its loop: the tokens before the index have said `is`. Assumes nothing.
use Rattle.lists.proofs.Kit.{◌≡◌, List, Bool, ℕ, ◌≤◌, length, drop}
use Rattle.vim_grammar.specs.declared.VimToken.{VimToken}
use Rattle.vim_grammar.specs.Tokens.{in_vim, decided}
use Rattle.vim_reader.proofs.VimSpec.holds.Given as goal

pub record Said (tokens : List VimToken) (c : ℕ) (is : Bool) (i : ℕ) : Type 0 where
  pub within : i ≤ length tokens
  pub rest : in_vim tokens c ≡ decided is (drop i tokens) c

abbrev pub invariant-loop-t : goal.invariant-loop-t
invariant-loop-t l = Said l.t-items l.c l.is l.t-index
