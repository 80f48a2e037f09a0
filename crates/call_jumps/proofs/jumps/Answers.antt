-- `jumps` by numbers meets its contract: it hands on what the jumps answer, and the places that they leave. Assumes nothing.
use Rattle.lists.proofs.Kit.{ap, ◌∙◌}
use Rattle.motions.specs.declared.Caret.{Caret}
use Rattle.call_bytes.proofs.Replies.{replied_of}
use Rattle.call_texts.specs.Carets.{moved_six}
use Rattle.jumps.specs.Jumps.{jumps_of, places_left}
use Rattle.call_jumps.proofs.jumps.Goals as goal

pub returns : goal.returns
returns c =
    let given = c.args in
    let done = c.jumps-m.ensures in
    record {
      replied = replied_of moved_six (done.answer
          ∙ ap (λ (k : Caret). jumps_of given.text.now given.starts.now given.content given.folds.now given.list.now k
          given.pairs.now given.answers.now) c.caret_six-k.ensures) c.place_six.ensures;
      answers_after = done.left ∙ ap (λ (k : Caret). places_left given.text.now given.starts.now given.content given.folds.now given.list.now k
          given.pairs.now given.answers.now) c.caret_six-k.ensures;
    }
