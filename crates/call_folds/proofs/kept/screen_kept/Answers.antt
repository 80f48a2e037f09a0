-- `kept::screen_kept` meets its contract: it hands on what the motion answers. Assumes nothing.
use Rattle.lists.proofs.Kit.{ap, ◌∙◌}
use Rattle.motions.specs.declared.Caret.{Caret}
use Rattle.call_folds.specs.Kept.{screen_kept}
use Rattle.call_texts.specs.Carets.{moved_six}
use Rattle.call_bytes.proofs.Replies.{replied_of}
use Rattle.call_folds.proofs.kept.screen_kept.Goals as goal

pub returns : goal.returns
returns c =
    let given = c.args in
    replied_of moved_six (c.kept_by.ensures
    ∙ ap (λ (k : Caret). screen_kept given.op given.mode given.width given.count given.tabstop k given.text.now given.folds.now)
    c.caret_six-k.ensures) c.place_six.ensures
