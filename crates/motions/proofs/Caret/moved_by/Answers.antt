-- `Caret::moved_by` meets its contract: the caret that the answer of `go` leaves. Assumes nothing.
use Rattle.lists.proofs.Kit.{ap, ◌∙◌}
use Rattle.motions.specs.Going.{landed}
use Rattle.motions.proofs.Every.{landed_goes}
use Rattle.motions.proofs.Caret.moved_by.Goals as goal

pub returns : goal.returns
returns c =
    let given = c.args in
    c.landed.ensures ∙ ap landed c.go.ensures
    ∙ landed_goes given.t.now given.folds.now given.list.now given.tabstop given.count given.self given.m
