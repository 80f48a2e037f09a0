-- `Caret::to_row` meets its contract: without an offset the target is that of `gj` and `gk`, and it becomes a caret. Assumes nothing.
use Rattle.lists.proofs.Kit.{ap, ◌∙◌, None}
use Rattle.widths.specs.Widths.{width_as}
use Rattle.screen.specs.declared.Kept.{Kept}
use Rattle.screen.proofs.Keeping.{absent_target}
use Rattle.motions.specs.UpDown.{at_target}
use Rattle.motions.proofs.Upright.{upright_ready, target_fits}
use Rattle.motions.proofs.Caret.to_row.Goals as goal

-- the target is in the text
pub caret_at-requires : goal.caret_at-requires
caret_at-requires c =
    let given = c.args in
    target_fits given.self (upright_ready c.requires) given.ambiguous given.mode given.width given.down given.count None _
    c.led-k.ensures

pub returns : goal.returns
returns c =
    let given = c.args in
    c.caret_at.ensures ∙ ap (λ (p : Kept). at_target p.target) c.led-k.ensures
    ∙ ap at_target (absent_target (width_as given.ambiguous) given.t.now given.folds.now given.tabstop given.mode given.width given.down
    given.count
    given.self.row given.self.col given.self.sticky)
