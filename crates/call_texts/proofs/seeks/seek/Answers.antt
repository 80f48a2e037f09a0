-- `seeks::seek` meets its contract: it hands on what the search answers. Assumes nothing.
use Rattle.lists.proofs.Kit.{ap, ◌∙◌, Option}
use Rattle.motions.specs.declared.Move.{Move}
use Rattle.motions.specs.declared.Caret.{Caret}
use Rattle.call_bytes.proofs.Replies.{replied_of}
use Rattle.call_texts.specs.Asks.{seek_as}
use Rattle.call_texts.specs.Seeks.{sought, seek_of, seek}
use Rattle.call_texts.proofs.seeks.seek.Goals as goal

pub returns : goal.returns
unfolding seek
returns c =
    let given = c.args in
    replied_of sought (c.seek_as.ensures ∙ ap (λ (a : Option Move). seek_as a c.caret_of-k.result given.text.now) c.seek_of.ensures
    ∙ ap (λ (k : Caret). seek_as (seek_of given.op given.x) k given.text.now) c.caret_of-k.ensures) c.tell.ensures
