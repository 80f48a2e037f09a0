-- `keywords::holds` meets its contract: the letters first, where they count, and then the bounds. Assumes nothing.
use Rattle.lists.proofs.Kit.{sym, ◌∙◌}
use Rattle.keywords.proofs.flat.holds.Goals as goal

pub returns-then-not-alphabetic : goal.returns-then-not-alphabetic
returns-then-not-alphabetic c = rw (c.if-not-alphabetic.true) c.in_bounds.ensures

pub returns-then-letter_in : goal.returns-then-letter_in
returns-then-letter_in c =
    rw (
      c.if-not-alphabetic.false,
      sym c.letter_in.ensures ∙ c.if-letter_in.true,
    )

pub returns : goal.returns
returns c =
    rw (
      c.if-not-alphabetic.false,
      sym c.letter_in.ensures ∙ c.if-letter_in.false,
    ) c.in_bounds-2.ensures
