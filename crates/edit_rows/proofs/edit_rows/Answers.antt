-- `edit_rows` meets its contract: what the checks of the edit find out, then the check of the table, and then the edit itself. Assumes nothing.
use Rattle.lists.proofs.Kit.{sym, ◌∙◌}
use Rattle.edits.proofs.Known.{editable}
use Rattle.edits.proofs.Made.{number_is}
use Rattle.edit_rows.proofs.Tables.{stretch, tabled}
use Rattle.edit_rows.proofs.Made.{rows_by_edit, rows_by_table, rows_done}
use Rattle.edit_rows.proofs.edit_rows.Goals as goal

pub returns-then-at-ne0 : goal.returns-then-at-ne0
returns-then-at-ne0 c =
    let given = c.args in
    let is = number_is given.text.now given.folds.now given.s given.p given.q given.points.now given.k c.check-at.result
    c.check-at.ensures in
    rows_by_edit given.text.now given.folds.now given.starts.now given.s given.content given.p given.q given.points.now given.k is c.if-at-ne0.true

pub check_rows-rows-requires : goal.check_rows-rows-requires
check_rows-rows-requires c =
    let given = c.args in
    let is = c.check-at.ensures in
    let none = sym (number_is given.text.now given.folds.now given.s given.p given.q given.points.now given.k c.check-at.result is)
    ∙ c.if-at-ne0.false in
    let by_editable = editable given.text.now given.folds.now given.s given.p given.q given.points.now given.k none c.check-at.result is in
    record { stretch = stretch by_editable; rows_are = by_editable.rows_is; points_brief = by_editable.points_brief }

pub returns-then-rows-ne0 : goal.returns-then-rows-ne0
returns-then-rows-ne0 c =
    let given = c.args in
    let is = c.check-at.ensures in
    let none = sym (number_is given.text.now given.folds.now given.s given.p given.q given.points.now given.k c.check-at.result is)
    ∙ c.if-at-ne0.false in
    rows_by_table given.text.now given.folds.now given.starts.now given.s given.content given.p given.q given.points.now given.k none
    c.check_rows-rows.ensures.refusal_is c.if-rows-ne0.true

pub make_rows-requires : goal.make_rows-requires
make_rows-requires c =
    let given = c.args in
    let is = c.check-at.ensures in
    let none = sym (number_is given.text.now given.folds.now given.s given.p given.q given.points.now given.k c.check-at.result is)
    ∙ c.if-at-ne0.false in
    record {
      editable = editable given.text.now given.folds.now given.s given.p given.q given.points.now given.k none c.check-at.result is;
      tabled = tabled c.check_rows-rows.ensures c.if-rows-ne0.false;
    }

pub returns : goal.returns
returns c =
    let given = c.args in
    let is = c.check-at.ensures in
    let none = sym (number_is given.text.now given.folds.now given.s given.p given.q given.points.now given.k c.check-at.result is)
    ∙ c.if-at-ne0.false in
    rows_done given.text.now given.folds.now given.starts.now given.s given.content given.p given.q given.points.now given.k none
    c.check_rows-rows.ensures.refusal_is c.if-rows-ne0.false c.make_rows.ensures
