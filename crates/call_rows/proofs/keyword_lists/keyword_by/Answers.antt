-- `lists::keyword_by` meets its contract, arm by arm. Assumes nothing.
use Rattle.lists.proofs.Kit.{◌∙◌, ap, ne_eqb}
use Rattle.call_rows.specs.Lists.{keyword, told_matched}
use Rattle.call_rows.proofs.keyword_lists.keyword_by.Goals as goal

pub returns-in-0 : goal.returns-in-0
unfolding keyword
returns-in-0 c = rw c.in-0.is c.token_count.ensures

pub returns-in-1 : goal.returns-in-1
unfolding keyword
returns-in-1 c = rw c.in-1.is c.in_table.ensures

pub returns-in-2 : goal.returns-in-2
unfolding keyword
returns-in-2 c = rw c.in-2.is (c.told_matched.ensures ∙ ap told_matched c.is_keyword_char.ensures)

pub returns-in_default : goal.returns-in_default
unfolding keyword
returns-in_default c =
    let other = c.in_default.in_default-own.rest in
    rw (ne_eqb _ 0 other.0.0.1, ne_eqb _ 1 other.0.1, ne_eqb _ 2 other.1)
