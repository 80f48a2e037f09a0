-- `row_offsets::offset_of` meets its contract: a refusal is handed on, and what is not refused is walked by the measure of the setting. Assumes nothing.
use Rattle.lists.proofs.Kit.{◌≡◌, ap, sym, ◌∙◌, ℕ, rules}
use Rattle.chars.specs.Width.{width_with}
use Rattle.row_check.proofs.Answers.{answer_refused, answer_at_lem, accepted_brief}
use Rattle.row_offsets.specs.Calls.{RowLent, offset_by}
use Rattle.row_offsets.proofs.offset_of.Goals as goal

pub returns-then-f-ne0 : goal.returns-then-f-ne0
returns-then-f-ne0 c = answer_refused _ c.row_refusal-f.ensures c.if-f-ne0.true

pub lend-requires : goal.lend-requires
lend-requires c = λ m lends.
    let is_lent : RowLent m c.args.row.now =
    record { widths = lends.fit; brief = accepted_brief _ (sym c.row_refusal-f.ensures ∙ c.if-f-ne0.false) } in
    search rules

pub returns : goal.returns
returns c =
    let given = c.args in
    let told = c.lend.ensures in
    let by_measure : c.lend.result ≡ offset_by (width_with told.0) given.ask given.row.now given.start given.end given.n = search rules in
    answer_at_lem c.row_refusal-f.ensures c.if-f-ne0.false
    (by_measure ∙ ap (λ (w : ℕ → ℕ). offset_by w given.ask given.row.now given.start given.end given.n) told.1.same)
