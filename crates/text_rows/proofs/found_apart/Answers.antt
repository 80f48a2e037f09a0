-- `text_rows::found_apart` meets its contract: each answer by its own call. Assumes nothing.
use Rattle.lists.proofs.Kit.{ap, ◌∙◌, ℕ}
use Rattle.row_table.specs.Table.{table_refusal}
use Rattle.text_rows.proofs.found_apart.Goals as goal

pub returns : goal.returns
returns c =
    let given = c.args in
    let rows = c.row_count-rows.ensures in
    let table = c.table_refusal-g.ensures ∙ ap (λ (n : ℕ). table_refusal n given.t.now given.starts.now given.content) rows in
    λ i. record { refusal = c.text_refusal-f.ensures i; rows = rows i; table = table i }
