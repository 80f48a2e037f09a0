-- `go_rows` meets its contract: the table's number in the answer's place, or the first entry's answer by a row from the table. Assumes nothing.
use Rattle.lists.proofs.Kit.{sym, ap, ◌∙◌, ℕ}
use Rattle.text.specs.Text.{row_count}
use Rattle.text_rows.specs.declared.Found.{Found}
use Rattle.row_table.specs.Table.{table_refusal}
use Rattle.row_entries.proofs.Rows.{table_held}
use Rattle.motions.specs.declared.Sought.{Sought}
use Rattle.motion_rows.specs.Going.{or_table}
use Rattle.motion_rows.proofs.Alike.{second_first}
use Rattle.motion_rows.proofs.go_rows.Goals as goal

pub returns-then-g-ne0 : goal.returns-then-g-ne0
returns-then-g-ne0 c =
    let given = c.args in
    let number = ap (λ (f : Found). f.table) c.checked-c.ensures in
    c.or_table.ensures ∙ ap (λ (g : ℕ). or_table g c.go.result) number
    ∙ ap (λ (r : Sought). or_table (table_refusal (row_count given.t.now) given.t.now given.starts.now given.content) r) c.go.ensures

-- the text is refused
pub returns-then-c-ne0 : goal.returns-then-c-ne0
returns-then-c-ne0 c =
    let given = c.args in
    let number = ap (λ (f : Found). f.table) c.checked-c.ensures in
    c.go-then-c-ne0.ensures
    ∙ sym (second_first given.t.now given.starts.now given.content (sym number ∙ c.if-g-ne0.false) given.folds.now given.list.now
    given.tabstop given.m given.count given.k)

pub enter_by-e-requires : goal.enter_by-e-requires
enter_by-e-requires c =
    let given = c.args in
    let found = c.checked-c.ensures in
    table_held given.t.now given.starts.now c.checked-c.result.rows given.content
    (sym (ap (λ (f : Found). f.refusal) found) ∙ c.if-c-ne0.false) (ap (λ (f : Found). f.rows) found)
    (sym (ap (λ (f : Found). f.table) found) ∙ c.if-g-ne0.false)

pub returns : goal.returns
returns c =
    let given = c.args in
    let number = ap (λ (f : Found). f.table) c.checked-c.ensures in
    c.go_from.ensures
    ∙ sym (second_first given.t.now given.starts.now given.content (sym number ∙ c.if-g-ne0.false) given.folds.now given.list.now
    given.tabstop given.m given.count given.k)
