-- `word_kinds::kinds::is_word` meets its contract: by flags, or else the letters first, where they count, and then the bounds. Assumes nothing.
use Rattle.lists.proofs.Kit.{sym, ◌∙◌, not-true, not-false, le-leb}
use Rattle.word_kinds.proofs.kinds.is_word.Goals as goal

pub returns-then-by : goal.returns-then-by
returns-then-by c = rw c.if-by.true c.is_flagged.ensures

-- a high code point reads the ranges of the letters
pub holds-requires : goal.holds-requires
holds-requires c =
    (c.requires.room, c.requires.lent (le-leb _ _ c.if-x-ge706.true))

pub returns-then-x-ge706 : goal.returns-then-x-ge706
returns-then-x-ge706 c = rw c.if-by.false c.holds.ensures

pub returns-then-not-by : goal.returns-then-not-by
returns-then-not-by c =
    rw (c.if-by.false, c.if-not-by.true) c.in_bounds.ensures

pub returns-then-is_letter : goal.returns-then-is_letter
returns-then-is_letter c =
    rw (c.if-by.false, c.if-not-by.false, sym c.is_letter.ensures ∙ c.if-is_letter.true)

pub returns : goal.returns
returns c =
    rw (c.if-by.false, c.if-not-by.false, sym c.is_letter.ensures ∙ c.if-is_letter.false)
    c.in_bounds-2.ensures
