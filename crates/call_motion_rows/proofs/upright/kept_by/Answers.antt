-- `upright::kept_by` meets its contract: the mode's number, then the motion's. Assumes nothing.
use Rattle.lists.proofs.Kit.{ap, ◌∙◌, ℕ, lt-leb, le-leb}
use Rattle.widths.specs.declared.Ambiguous.{Ambiguous}
use Rattle.row_wrap.specs.declared.Wrap.{Wrap}
use Rattle.call_rows.specs.Flags.{setting_of}
use Rattle.call_rows.specs.Wraps.{mode_of}
use Rattle.call_folds.specs.Kept.{kept_of}
use Rattle.call_motion_rows.specs.Asks.{kept_by}
use Rattle.call_motion_rows.proofs.upright.kept_by.Goals as goal

pub returns-then-mode-gt2 : goal.returns-then-mode-gt2
unfolding kept_by
returns-then-mode-gt2 c = rw (lt-leb _ 2 c.if-mode-gt2.true)

pub returns : goal.returns
unfolding kept_by
returns c =
    let given = c.args in
    rw (le-leb _ 2 c.if-mode-gt2.false) (c.kept_of.ensures
    ∙ ap (λ (w : Wrap). kept_of c.setting_of.result c.plain_of-plain.result w given.width) c.mode_of-w.ensures
    ∙ ap (λ (a : Ambiguous). kept_of a c.plain_of-plain.result (mode_of given.mode) given.width) c.setting_of.ensures
    ∙ ap (λ (op : ℕ). kept_of (setting_of given.op) op (mode_of given.mode) given.width) c.plain_of-plain.ensures)
