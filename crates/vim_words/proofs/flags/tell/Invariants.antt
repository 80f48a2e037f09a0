-- `vim_words::flags::tell` meets its contract. The invariant of its loop: the token has been told of the codes below c.
-- Assumes nothing.
use Rattle.vim_words.proofs.Telling.{TellingTo}
use Rattle.vim_words.proofs.flags.tell.Given as goal

abbrev pub invariant-loop-c : goal.invariant-loop-c
invariant-loop-c l = TellingTo l.t l.c l.initial.flags l.flags
