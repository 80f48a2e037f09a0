-- `viewports::viewport` meets its contract: it hands on what the move answers. Assumes nothing.
use Rattle.lists.proofs.Kit.{ap, ◌∙◌, [], Option}
use Rattle.motions.specs.declared.Move.{Move}
use Rattle.motions.specs.declared.Caret.{Caret}
use Rattle.call_bytes.proofs.Replies.{replied_of}
use Rattle.call_texts.specs.Asks.{move_as}
use Rattle.call_texts.specs.Carets.{moved}
use Rattle.call_texts.specs.Viewports.{edge_of, viewport}
use Rattle.call_texts.proofs.viewports.viewport.Goals as goal

pub returns : goal.returns
unfolding viewport
returns c =
    let given = c.args in
    replied_of moved (c.move_as.ensures
    ∙ ap (λ (a : Option Move). move_as a 1 c.caret_of-k.result given.text.now [] [] 0) c.edge_of-m.ensures
    ∙ ap (λ (k : Caret). move_as (edge_of given.op given.top given.height given.offset) 1 k given.text.now [] [] 0) c.caret_of-k.ensures)
    c.place.ensures
