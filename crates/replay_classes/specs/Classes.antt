-- What the second engine of the word motions answers and leaves, as the list of cases has it, and the verdict of a case. What the contracts of
-- `replay_classes` cite. Definitions only. Assumes nothing.
use Rattle.std.specs.Prelude.{ℕ, List, ◌∷◌, ◌++◌, cond, eqb, leb, replicate}
use Rattle.motions.specs.declared.Caret.{Caret}
use Rattle.call_bytes.specs.Reply.{number, left}
use Rattle.call_texts.specs.Carets.{caret_of}
use Rattle.call_folds.specs.Terms.{is_big}
use Rattle.call_classes.specs.Classed.{classing, classes_in}
use Rattle.call_classes.specs.ByTerm.{words_by_class, slices_left}
use Rattle.replay_rows.specs.declared.Head.{Head}
use Rattle.replay_verdicts.specs.declared.Verdict.{Verdict}
use Rattle.replay_verdicts.specs.declared.Verdict.TheVariants.{Malformed}
use Rattle.replay_verdicts.specs.Answers.{compared, filler}

-- row, column, whether there is a sticky column, and that
abbrev pub caret : Head → Caret
caret k = caret_of k.a k.b k.c k.d

-- a word motion by the count e, of big words where f is not 0: the number, its four places, and the slice
unfoldable pub classed_into : Head → List ℕ → List ℕ → List ℕ → List ℕ → List ℕ
classed_into k text folds list room =
    let m = words_by_class k.op (is_big k.f) k.e (caret k) text folds list room in
    number m ∷ (left m (replicate 4 filler) ++ slices_left k.op (caret k) text folds list room)

-- the classes: the number, how many, and the slice
unfoldable pub classes_into : List ℕ → List ℕ → List ℕ → List ℕ
classes_into text list room =
    let m = classing text list room in
    number m ∷ (left m (replicate 1 filler) ++ classes_in text list room)

unfoldable pub answered : Head → List ℕ → List ℕ → List ℕ → List ℕ → List ℕ
answered k text folds list room = cond (eqb k.op 5) (classes_into text list room) (classed_into k text folds list room)

-- into g places, at most 64
unfoldable pub class_verdict : Head → List ℕ → List ℕ → List ℕ → List ℕ → Verdict
class_verdict k text folds list stored =
    cond (leb k.g 64) (compared (answered k text folds list (replicate k.g 165)) stored) Malformed
