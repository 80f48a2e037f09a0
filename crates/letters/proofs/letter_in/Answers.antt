-- `letters::letter_in` meets its contract: what is lent lists the ranges of the definition, and keeps the rule. Assumes nothing.
use Rattle.lists.proofs.Kit.{◌∙◌}
use Rattle.letters.specs.Letters.{is_letter}
use Rattle.letters.proofs.Tables.{letters_apart, letters_listed}
use Rattle.letters.proofs.letter_in.Goals as goal

pub in_ranges-requires : goal.in_ranges-requires
in_ranges-requires c =
    let lent = c.requires in
    rw (lent.starts_are, lent.lengths_are) letters_apart

pub returns : goal.returns
unfolding is_letter
returns c =
    let lent = c.requires in
    c.in_ranges.ensures ∙ rw (lent.starts_are, lent.lengths_are, letters_listed)
