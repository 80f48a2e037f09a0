-- `terms::word_by_class` meets its contract: it hands on what the motion answers, and the slice that it leaves. Assumes nothing.
use Rattle.lists.proofs.Kit.{ap, ◌∙◌, Option, Bool}
use Rattle.word_rounds.specs.declared.Motion.{Motion}
use Rattle.motions.specs.declared.Caret.{Caret}
use Rattle.call_bytes.proofs.Replies.{replied_of}
use Rattle.call_texts.specs.Carets.{moved}
use Rattle.call_folds.specs.Terms.{is_big}
use Rattle.call_classes.specs.ByTerm.{term_of, by_term, left_by}
use Rattle.call_classes.proofs.terms.word_by_class.Goals as goal

pub returns : goal.returns
returns c =
    let given = c.args in
    let caret_of_result = c.caret_of-k.result in
    let by_term_told = c.by_term.ensures in
    record {
      replied = replied_of moved (by_term_told.value
          ∙ ap (λ (a : Option (Motion × Bool)). by_term a (is_big given.big) given.count caret_of_result given.text.now given.folds.now given.list.now
          given.classes.now) c.term_of-a.ensures
          ∙ ap (λ (x : Caret). by_term (term_of given.op) (is_big given.big) given.count x given.text.now given.folds.now given.list.now
          given.classes.now) c.caret_of-k.ensures) c.place.ensures;
      classes_after = by_term_told.classes_after ∙ ap (λ (a : Option (Motion × Bool)). left_by a caret_of_result given.text.now given.folds.now given.list.now given.classes.now)
          c.term_of-a.ensures
          ∙ ap (λ (x : Caret). left_by (term_of given.op) x given.text.now given.folds.now given.list.now given.classes.now)
          c.caret_of-k.ensures;
    }
