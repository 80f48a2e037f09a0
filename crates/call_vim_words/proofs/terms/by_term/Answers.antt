-- `terms::by_term` meets its contract, by the cases of what is asked for. Assumes nothing.
use Rattle.call_vim_words.specs.ByTerm.{by_vim_term}
use Rattle.call_vim_words.proofs.terms.by_term.Goals as goal

pub returns-in-Some : goal.returns-in-Some
unfolding by_vim_term
returns-in-Some c = rw c.in-Some.is c.word_by_vim.ensures

pub returns-in-None : goal.returns-in-None
unfolding by_vim_term
returns-in-None c = rw c.in-None.is
