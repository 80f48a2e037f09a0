-- `call::late_refusal` meets its contract: the table, the kinds, the places. Assumes nothing.
use Rattle.lists.proofs.Kit.{ap, ◌∙◌, ℕ}
use Rattle.row_table.specs.Table.{table_refusal}
use Rattle.jumps.proofs.Late.{late_table, late_kind, late_answer}
use Rattle.jumps.proofs.call.late_refusal.Goals as goal

pub returns-then-g-ne0 : goal.returns-then-g-ne0
returns-then-g-ne0 c =
    let given = c.args in
    let table = c.table_refusal-g.ensures ∙ ap (λ (n : ℕ). table_refusal n given.t.now given.starts.now given.content) c.requires in
    late_table given.t.now given.starts.now given.content given.jumps.now given.places table c.if-g-ne0.true

pub returns-then-h-ne0 : goal.returns-then-h-ne0
returns-then-h-ne0 c =
    let given = c.args in
    let table = c.table_refusal-g.ensures ∙ ap (λ (n : ℕ). table_refusal n given.t.now given.starts.now given.content) c.requires in
    late_kind given.t.now given.starts.now given.content given.jumps.now given.places table c.if-g-ne0.false
    c.kind_refusal-h.ensures c.if-h-ne0.true

pub returns : goal.returns
returns c =
    let given = c.args in
    let table = c.table_refusal-g.ensures ∙ ap (λ (n : ℕ). table_refusal n given.t.now given.starts.now given.content) c.requires in
    late_answer given.t.now given.starts.now given.content given.jumps.now given.places table c.if-g-ne0.false
    c.kind_refusal-h.ensures c.if-h-ne0.false c.answer_refusal.ensures
