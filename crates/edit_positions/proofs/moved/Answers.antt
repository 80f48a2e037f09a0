-- `edit_positions::moved` meets its contract: each test picks the case of the definition. Assumes nothing.
use Rattle.lists.proofs.Kit.{sym, ◌∙◌}
use Rattle.edit_positions.proofs.Formula.{not_before_col, not_before_row, moved_before, moved_inside, moved_row, moved_later}
use Rattle.edit_positions.proofs.moved.Goals as goal

pub returns-then-is_before : goal.returns-then-is_before
returns-then-is_before c =
    let given = c.args in
    moved_before given.c given.x (sym c.is_before.ensures ∙ c.if-is_before.true)

pub returns-then-is_before-2 : goal.returns-then-is_before-2
returns-then-is_before-2 c =
    let given = c.args in
    moved_inside given.c given.x (sym c.is_before.ensures ∙ c.if-is_before.false) (sym c.is_before-2.ensures ∙ c.if-is_before-2.true)

-- from the end of the stretch on: its row, and later ones
pub overflow_sub-result : goal.overflow_sub-result
overflow_sub-result c =
    let given = c.args in
    not_before_col given.x given.c.to (sym c.is_before-2.ensures ∙ c.if-is_before-2.false) c.if-x-to.true

pub returns-then-x-to : goal.returns-then-x-to
returns-then-x-to c =
    let given = c.args in
    moved_row given.c given.x (sym c.is_before.ensures ∙ c.if-is_before.false)
    (sym c.is_before-2.ensures ∙ c.if-is_before-2.false) c.if-x-to.true

pub overflow_sub-result-2 : goal.overflow_sub-result-2
overflow_sub-result-2 c =
    let given = c.args in
    not_before_row given.x given.c.to (sym c.is_before-2.ensures ∙ c.if-is_before-2.false) c.if-x-to.false

pub returns : goal.returns
returns c =
    let given = c.args in
    moved_later given.c given.x (sym c.is_before.ensures ∙ c.if-is_before.false)
    (sym c.is_before-2.ensures ∙ c.if-is_before-2.false) c.if-x-to.false
