-- `upright::vertical_by` meets its contract: the mode's number, then the move. Assumes nothing.
use Rattle.lists.proofs.Kit.{ap, ◌∙◌, [], ℕ, lt-leb, le-leb, Option}
use Rattle.motions.specs.declared.Move.{Move}
use Rattle.widths.specs.declared.Ambiguous.{Ambiguous}
use Rattle.row_wrap.specs.declared.Wrap.{Wrap}
use Rattle.motions.specs.declared.Moved.{Moved}
use Rattle.call_rows.specs.Flags.{setting_of}
use Rattle.call_rows.specs.Wraps.{mode_of}
use Rattle.call_texts.specs.Asks.{move_as}
use Rattle.call_folds.specs.Upright.{upright_of, upright, vertical}
use Rattle.call_folds.proofs.upright.vertical_by.Goals as goal

pub returns-then-mode-gt2 : goal.returns-then-mode-gt2
unfolding vertical
returns-then-mode-gt2 c = rw (lt-leb _ 2 c.if-mode-gt2.true)

pub returns : goal.returns
unfolding vertical upright
returns c =
    let given = c.args in
    let asked : Ambiguous → ℕ → Wrap → Moved =
    λ a op w. move_as (upright_of a op w given.width) given.count given.k given.t.now given.folds.now [] given.tabstop in
    rw (le-leb _ 2 c.if-mode-gt2.false) (c.move_as.ensures
    ∙ ap (λ (a : Option Move). move_as a given.count given.k given.t.now given.folds.now [] given.tabstop) c.upright_of.ensures
    ∙ ap (λ (w : Wrap). asked c.setting_of.result c.plain_of-plain.result w) c.mode_of-w.ensures
    ∙ ap (λ (a : Ambiguous). asked a c.plain_of-plain.result (mode_of given.mode)) c.setting_of.ensures
    ∙ ap (λ (op : ℕ). asked (setting_of given.op) op (mode_of given.mode)) c.plain_of-plain.ensures)
