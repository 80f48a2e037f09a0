-- `word_classes::classes::char_class` meets its contract: the tests stand in the definition's order. Assumes nothing.
use Rattle.lists.proofs.Kit.{sym, ◌∙◌}
use Rattle.word_classes.specs.Classes.{char_class}
use Rattle.word_classes.proofs.classes.char_class.Goals as goal

pub returns-then-is_white : goal.returns-then-is_white
unfolding char_class
returns-then-is_white c = rw (sym c.is_white.ensures ∙ c.if-is_white.true)

pub returns-then-is_word : goal.returns-then-is_word
unfolding char_class
returns-then-is_word c =
    rw (sym c.is_white.ensures ∙ c.if-is_white.false, sym c.is_word.ensures ∙ c.if-is_word.true)

pub returns : goal.returns
unfolding char_class
returns c =
    rw (sym c.is_white.ensures ∙ c.if-is_white.false, sym c.is_word.ensures ∙ c.if-is_word.false)
