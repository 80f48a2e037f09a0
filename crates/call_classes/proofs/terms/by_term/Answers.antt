-- `terms::by_term` meets its contract, by the cases of what is asked for. Assumes nothing.
use Rattle.lists.proofs.Kit.{refl}
use Rattle.call_classes.specs.ByTerm.{by_term, left_by}
use Rattle.call_classes.proofs.terms.by_term.Goals as goal

pub returns-in-Some : goal.returns-in-Some
unfolding by_term left_by
returns-in-Some c =
    let word_by_class_told = c.word_by_class.ensures in
    rw c.in-Some.is (record { value = word_by_class_told.answer; classes_after = word_by_class_told.left })

pub returns-in-None : goal.returns-in-None
unfolding by_term left_by
returns-in-None c = rw c.in-None.is (record { value = refl; classes_after = refl })
