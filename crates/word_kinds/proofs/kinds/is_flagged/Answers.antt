-- `word_kinds::kinds::is_flagged` meets its contract: the flag of a code up to 255, and above it the letters, where they count. Assumes nothing.
use Rattle.lists.proofs.Kit.{not-true, not-false, lt-ltb, le-ltb, le-leb}
use Rattle.word_kinds.specs.Lent.{flagged}
use Rattle.word_kinds.proofs.kinds.is_flagged.Goals as goal

pub returns-then-x-lt256 : goal.returns-then-x-lt256
unfolding flagged
returns-then-x-lt256 c = rw (lt-ltb _ _ c.if-x-lt256.true)

pub returns-then-not-by : goal.returns-then-not-by
unfolding flagged
returns-then-not-by c =
    rw (le-ltb _ _ c.if-x-lt256.false, c.if-not-by.true)

pub returns-then-x-lt706 : goal.returns-then-x-lt706
unfolding flagged
returns-then-x-lt706 c =
    rw (le-ltb _ _ c.if-x-lt256.false, c.if-not-by.false) c.is_letter.ensures

-- a high code point reads the ranges of the letters
pub letter_in-requires : goal.letter_in-requires
letter_in-requires c =
    c.requires.lent (le-leb _ _ c.if-x-lt706.false)

pub returns : goal.returns
unfolding flagged
returns c =
    rw (le-ltb _ _ c.if-x-lt256.false, c.if-not-by.false) c.letter_in.ensures
