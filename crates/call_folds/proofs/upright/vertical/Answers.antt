-- `vertical` meets its contract: it hands on what the motion answers. Assumes nothing.
use Rattle.lists.proofs.Kit.{ap, ◌∙◌}
use Rattle.motions.specs.declared.Caret.{Caret}
use Rattle.call_folds.specs.Upright.{vertical}
use Rattle.call_texts.specs.Carets.{moved}
use Rattle.call_bytes.proofs.Replies.{replied_of}
use Rattle.call_folds.proofs.upright.vertical.Goals as goal

pub returns : goal.returns
returns c =
    let given = c.args in
    replied_of moved (c.vertical_by.ensures
    ∙ ap (λ (k : Caret). vertical given.op given.mode given.width given.count given.tabstop k given.text.now given.folds.now)
    c.caret_of-k.ensures) c.place.ensures
