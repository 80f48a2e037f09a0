-- `vim_words::flags::letters_of` meets its contract. The invariant of its loop: the tokens before i have said `is` of the letters. Assumes nothing.
use Rattle.lists.proofs.Kit.{take}
use Rattle.vim_words.proofs.Telling.{LettersTo}
use Rattle.vim_words.proofs.flags.letters_of.Given as goal

abbrev pub invariant-loop-t : goal.invariant-loop-t
invariant-loop-t l = LettersTo (take l.fn.spec.len l.fn.spec.tokens) l.fn.spec.len l.is l.t-index
