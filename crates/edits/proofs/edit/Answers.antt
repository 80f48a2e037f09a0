-- `edits::edit` meets its contract: what the checks find out, and then the edit itself. Assumes nothing.
use Rattle.lists.proofs.Kit.{sym, ◌∙◌}
use Rattle.edits.proofs.Known.{editable}
use Rattle.edits.proofs.Made.{number_is, edit_refused, edit_done}
use Rattle.edits.proofs.edit.Goals as goal

pub returns-then-at-ne0 : goal.returns-then-at-ne0
returns-then-at-ne0 c =
    let given = c.args in
    edit_refused given.text.now given.folds.now given.s given.p given.q given.points.now given.k c.check-at.result
    c.check-at.ensures c.if-at-ne0.true

pub make-requires : goal.make-requires
make-requires c =
    let given = c.args in
    let is = c.check-at.ensures in
    let none = sym (number_is given.text.now given.folds.now given.s given.p given.q given.points.now given.k c.check-at.result is)
    ∙ c.if-at-ne0.false in
    editable given.text.now given.folds.now given.s given.p given.q given.points.now given.k none c.check-at.result is

pub returns : goal.returns
returns c =
    let given = c.args in
    edit_done given.text.now given.folds.now given.s given.p given.q given.points.now given.k c.check-at.result
    c.check-at.ensures c.if-at-ne0.false c.make.ensures
