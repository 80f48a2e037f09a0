-- `go_from` meets its contract: the number of its checks, or what the walk answers. Assumes nothing.
use Rattle.lists.proofs.Kit.{sym, ◌∙◌}
use Rattle.motions.proofs.Checked.{checked_ready}
use Rattle.motions.proofs.Every.{goes_by}
use Rattle.motions.proofs.Finding.{seek_refused, seek_found}
use Rattle.motions.proofs.going.go_from.Goals as goal

pub returns-then-f-ne0 : goal.returns-then-f-ne0
returns-then-f-ne0 c =
    let given = c.args in
    seek_refused c.checks-f.ensures _ c.if-f-ne0.true
    ∙ sym (goes_by given.t.now given.folds.now given.list.now given.tabstop given.count given.k _ c.requires given.m)

pub walk-requires : goal.walk-requires
walk-requires c =
    let given = c.args in
    checked_ready given.t.now given.folds.now given.tabstop given.k _ c.requires given.m (sym c.checks-f.ensures ∙ c.if-f-ne0.false)

pub returns : goal.returns
returns c =
    let given = c.args in
    seek_found c.checks-f.ensures _ _ c.if-f-ne0.false c.walk.ensures
    ∙ sym (goes_by given.t.now given.folds.now given.list.now given.tabstop given.count given.k _ c.requires given.m)
