-- `enter_rows` meets its contract: text, position, table, in that order. Assumes nothing.
use Rattle.lists.proofs.Kit.{sym, ◌∙◌, ap, ℕ}
use Rattle.row_table.specs.Table.{table_refusal}
use Rattle.positions.proofs.Checks.{refusal_text, entry_number}
use Rattle.row_entries.proofs.Rows.{table_held, with_refused, with_entered, with_table, with_other}
use Rattle.row_entries.proofs.enter_rows.Goals as goal

pub returns-then-f-ne0 : goal.returns-then-f-ne0
returns-then-f-ne0 c =
    let given = c.args in
    with_refused given.t.now given.starts.now given.content given.p c.refused.ensures
    (refusal_text given.t.now given.p _ c.text_refusal-f.ensures c.if-f-ne0.true) c.if-f-ne0.true

pub enter_by-requires : goal.enter_by-requires
enter_by-requires c =
    let given = c.args in
    let number = c.table_refusal-g.ensures
    ∙ ap (λ (n : ℕ). table_refusal n given.t.now given.starts.now given.content) c.row_count-rows.ensures in
    table_held given.t.now given.starts.now c.row_count-rows.result given.content
    (sym c.text_refusal-f.ensures ∙ c.if-f-ne0.false) c.row_count-rows.ensures (sym number ∙ c.if-g-eq0.true)

pub returns-then-g-eq0 : goal.returns-then-g-eq0
returns-then-g-eq0 c =
    let given = c.args in
    let number = c.table_refusal-g.ensures
    ∙ ap (λ (n : ℕ). table_refusal n given.t.now given.starts.now given.content) c.row_count-rows.ensures in
    with_table given.t.now given.starts.now given.content given.p number c.if-g-eq0.true c.enter_by.ensures

-- the table is another, and the position is refused first
pub returns-then-e-ne0 : goal.returns-then-e-ne0
returns-then-e-ne0 c =
    let given = c.args in
    with_entered given.t.now given.starts.now given.content given.p c.enter-e.ensures c.if-e-ne0.true

pub returns : goal.returns
returns c =
    let given = c.args in
    let number = c.table_refusal-g.ensures
    ∙ ap (λ (n : ℕ). table_refusal n given.t.now given.starts.now given.content) c.row_count-rows.ensures in
    with_other given.t.now given.starts.now given.content given.p number c.if-g-eq0.false
    (sym (entry_number given.t.now given.p c.enter-e.result c.enter-e.ensures) ∙ c.if-e-ne0.false) c.refused-2.ensures
