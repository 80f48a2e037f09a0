-- `edit_carets::corrected` meets its contract: the caret's position is moved, and all else is cleared. Assumes nothing.
use Rattle.lists.proofs.Kit.{ap, ◌∙◌, arith}
use Rattle.text.specs.declared.Position.{Position}
use Rattle.edit_carets.specs.Carets.{cleared_at}
use Rattle.edit_carets.proofs.Follows.{moved_fits}
use Rattle.edit_carets.proofs.corrected.Goals as goal

pub cleared-requires : goal.cleared-requires
cleared-requires c =
    let by_moved_fits = moved_fits c.args.k c.args.c c.requires (omega arith) (omega arith) in
    let moved_told = c.moved.ensures in
    (omega (arith, by_moved_fits.0, ap (λ (y : Position). y.row) moved_told), omega (arith, by_moved_fits.1, ap (λ (y : Position). y.col) moved_told))

pub returns : goal.returns
returns c = c.cleared.ensures ∙ ap cleared_at c.moved.ensures
