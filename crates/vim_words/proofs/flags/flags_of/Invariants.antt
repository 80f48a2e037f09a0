-- `vim_words::flags::flags_of` meets its contract. The invariant of its loop: the tokens before i have been told. Assumes nothing.
use Rattle.lists.proofs.Kit.{take}
use Rattle.vim_words.proofs.Telling.{SpokenTo}
use Rattle.vim_words.proofs.flags.flags_of.Given as goal

abbrev pub invariant-loop-t : goal.invariant-loop-t
invariant-loop-t l = SpokenTo (take l.fn.spec.len l.fn.spec.tokens) l.fn.spec.len l.t-index l.flags
