-- `Caret::to_place` meets its contract: the position that the move leads to is in the text. Assumes nothing.
use Rattle.lists.proofs.Kit.{ap, ◌∙◌}
use Rattle.steps.proofs.Staying.{accepted_in}
use Rattle.text_moves.proofs.Going.{gone_in}
use Rattle.motions.specs.Carets.{here, put}
use Rattle.motions.proofs.Fitting.{fits}
use Rattle.motions.proofs.Caret.to_place.Goals as goal

pub placed-requires : goal.placed-requires
placed-requires c =
    let given = c.args in
    fits c.requires.brief c.go-q.ensures (gone_in given.t.now given.w given.count (here given.self) (accepted_in c.requires))

pub returns : goal.returns
returns c =
    let given = c.args in
    c.placed.ensures ∙ ap (put given.self) c.go-q.ensures
