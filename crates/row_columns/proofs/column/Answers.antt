-- `row_columns::column` meets its contract: a refusal is handed on, and what is not refused is walked by the measure of the setting. Assumes nothing.
use Rattle.lists.proofs.Kit.{◌≡◌, ap, ◌∙◌, List, ℕ, rules}
use Rattle.chars.specs.declared.Measure.{Measure}
use Rattle.chars.specs.Width.{width_with}
use Rattle.widths.specs.declared.Ambiguous.{Ambiguous}
use Rattle.widths.specs.Widths.{width_as, Lends}
use Rattle.row_tabs.specs.Cells.{column_refusal}
use Rattle.row_columns.specs.declared.Ask.{Ask}
use Rattle.row_columns.specs.Ready.{Lent}
use Rattle.row_check.proofs.Answers.{answer_refused, answer_at_lem}
use Rattle.row_tabs.proofs.Accepted.{brief, near}
use Rattle.row_columns.specs.Calls.{column_by}
use Rattle.row_columns.proofs.column.Goals as goal

pub returns-then-f-ne0 : goal.returns-then-f-ne0
returns-then-f-ne0 c = answer_refused _ c.refused-f.ensures c.if-f-ne0.true

ready : {a : Ambiguous} {m : Measure} {row : List ℕ} {tabstop f : ℕ} → f ≡ column_refusal row tabstop → f ≡ 0 → Lends a m → Lent m row tabstop
ready given clear lends = record { widths = lends.fit; fits = record { brief = brief _ _ given clear; near = near _ _ given clear } }

pub lend-requires : goal.lend-requires
lend-requires c = λ m lends. let is_ready : Lent m c.args.row.now c.args.tabstop = ready c.refused-f.ensures c.if-f-ne0.false lends in search rules

pub returns : goal.returns
returns c =
    let given = c.args in
    let told = c.lend.ensures in
    let by_measure : c.lend.result ≡ column_by (width_with told.0) given.ask given.tabstop given.row.now given.n = search rules in
    answer_at_lem c.refused-f.ensures c.if-f-ne0.false
    (by_measure ∙ ap (λ (w : ℕ → ℕ). column_by w given.ask given.tabstop given.row.now given.n) told.1.same)
