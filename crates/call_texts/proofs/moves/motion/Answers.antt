-- `moves::motion` meets its contract: it hands on what the move answers. Assumes nothing.
use Rattle.lists.proofs.Kit.{ap, ◌∙◌, [], Option}
use Rattle.motions.specs.declared.Move.{Move}
use Rattle.motions.specs.declared.Caret.{Caret}
use Rattle.call_bytes.proofs.Replies.{replied_of}
use Rattle.call_texts.specs.Asks.{move_as}
use Rattle.call_texts.specs.Carets.{moved}
use Rattle.call_texts.specs.Moves.{way_of, motion}
use Rattle.call_texts.proofs.moves.motion.Goals as goal

pub returns : goal.returns
unfolding motion
returns c =
    let given = c.args in
    replied_of moved (c.move_as.ensures
    ∙ ap (λ (a : Option Move). move_as a given.count c.caret_of-k.result given.text.now [] [] 0) c.way_of.ensures
    ∙ ap (λ (k : Caret). move_as (way_of given.op) given.count k given.text.now [] [] 0) c.caret_of-k.ensures) c.place.ensures
