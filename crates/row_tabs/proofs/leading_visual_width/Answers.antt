-- `row_tabs::leading_visual_width` meets its contract: a refusal is handed on, and what is not refused is ready for the walk. Assumes nothing.
use Rattle.lists.proofs.Kit.{ap, ◌∙◌, ℕ}
use Rattle.row_tabs.proofs.Accepted.{brief, stops}
use Rattle.row_tabs.specs.Indents.{leading_from}
use Rattle.row_check.proofs.Answers.{answer_refused, answer_at_lem}
use Rattle.row_tabs.proofs.leading_visual_width.Goals as goal

pub returns-then-f-ne0 : goal.returns-then-f-ne0
returns-then-f-ne0 c = answer_refused _ c.refused-f.ensures c.if-f-ne0.true

pub leading_at-requires : goal.leading_at-requires
leading_at-requires c =
    let refused_told = c.refused-f.ensures in
    let left = c.if-f-ne0.false in
    record { brief = brief _ _ refused_told left; stop = stops _ _ refused_told left c.stop_of-tab.ensures }

pub returns : goal.returns
returns c =
    answer_at_lem c.refused-f.ensures c.if-f-ne0.false
    (c.leading_at.ensures ∙ ap (λ (t : ℕ). leading_from t 0 c.args.row.now) c.stop_of-tab.ensures)
