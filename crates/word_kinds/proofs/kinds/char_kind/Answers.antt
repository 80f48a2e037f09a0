-- `word_kinds::kinds::char_kind` meets its contract: the tests stand in the definition's order. Assumes nothing.
use Rattle.lists.proofs.Kit.{sym, ◌∙◌}
use Rattle.word_kinds.specs.Places.{kind_of}
use Rattle.word_kinds.proofs.kinds.char_kind.Goals as goal

pub returns-then-is_white : goal.returns-then-is_white
unfolding kind_of
returns-then-is_white c = rw (sym c.is_white.ensures ∙ c.if-is_white.true)

pub returns-then-by : goal.returns-then-by
unfolding kind_of
returns-then-by c = rw (sym c.is_white.ensures ∙ c.if-is_white.false, c.if-by.true)

pub returns-then-is_word : goal.returns-then-is_word
unfolding kind_of
returns-then-is_word c =
    rw (sym c.is_white.ensures ∙ c.if-is_white.false, c.if-by.false, sym c.is_word.ensures ∙ c.if-is_word.true)

pub returns : goal.returns
unfolding kind_of
returns c =
    rw (sym c.is_white.ensures ∙ c.if-is_white.false, c.if-by.false, sym c.is_word.ensures ∙ c.if-is_word.false)
