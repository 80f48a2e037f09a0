use Rattle.lists.proofs.Kit.{sym, ◌∙◌}
use Rattle.session_row.proofs.Laws.{count_none, count_some}
use Rattle.session_row.proofs.count_in.Goals as goal

pub returns-then-e-row : goal.returns-then-e-row
returns-then-e-row c = sym (count_none _ _ c.find-e.ensures.at c.if-e-row.true)

pub returns : goal.returns
returns c =
    let find_told = c.find-e.ensures in
    c.digits.ensures ∙ sym (count_some _ _ find_told.at find_told.within c.if-e-row.false)
