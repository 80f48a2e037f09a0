-- `Caret::to_row_kept` meets its contract: the target is in the text, and with the offset that was kept it becomes a caret. Assumes nothing.
use Rattle.lists.proofs.Kit.{ap, ◌∙◌, arith}
use Rattle.motions.specs.UpDown.{at_kept}
use Rattle.motions.proofs.Upright.{upright_ready, target_fits}
use Rattle.motions.proofs.Caret.to_row_kept.Goals as goal

pub overflow_cast-p : goal.overflow_cast-p
overflow_cast-p c =
    let given = c.args in
    let by_target_fits = target_fits given.self (upright_ready c.requires) given.ambiguous given.mode given.width given.down given.count
    given.self.offset _ c.led-k.ensures in
    omega (arith, by_target_fits.row)

pub overflow_cast-p-2 : goal.overflow_cast-p-2
overflow_cast-p-2 c =
    let given = c.args in
    let by_target_fits = target_fits given.self (upright_ready c.requires) given.ambiguous given.mode given.width given.down given.count
    given.self.offset _ c.led-k.ensures in
    omega (arith, by_target_fits.col)

pub returns : goal.returns
returns c = c.with.ensures ∙ ap at_kept c.led-k.ensures
