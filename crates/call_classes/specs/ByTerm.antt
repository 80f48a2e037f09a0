-- The word motions by the classes, by the number that stands for each. Cited by `call_classes::terms`; beside `tsivareza_word` in `proofs/Alike.antt`.
-- Assumes nothing.
use Rattle.std.specs.Prelude.{ℕ, List, Bool, true, false, cond, eqb, Option, Some, None}
use Rattle.word_rounds.specs.declared.Motion.{Motion}
use Rattle.word_rounds.specs.declared.Motion.TheVariants.{Fwd, Back, End, EndBack}
use Rattle.word_classes.specs.Call.{sliced_by}
use Rattle.motions.specs.declared.Caret.{Caret}
use Rattle.motions.specs.declared.Moved.{Moved}
use Rattle.motions.specs.declared.Moved.TheVariants.{Refused}
use Rattle.motions.specs.WordMoves.{folds_of}
use Rattle.caret_by_class.specs.ByClass.{class_refusal, move_by_class}
use Rattle.call_bytes.specs.Reply.{Reply}
use Rattle.call_texts.specs.Carets.{moved}

unfoldable pub term_of : ℕ → Option (Motion × Bool)
term_of op =
    cond (eqb op 0) (Some (Fwd, false))
    (cond (eqb op 1) (Some (Back, false))
    (cond (eqb op 2) (Some (End, false))
    (cond (eqb op 3) (Some (End, true))
    (cond (eqb op 4) (Some (EndBack, false))
    None))))

-- the answer of the motion; 100 where the number stands for none
unfoldable pub by_term : Option (Motion × Bool) → Bool → ℕ → Caret → List ℕ → List ℕ → List ℕ → List ℕ → Moved
by_term (Some (m, stop)) big n k t folds list room = move_by_class t (folds_of m folds) list big m stop n k room
by_term None big n k t folds list room = Refused 100

-- the slice after it
unfoldable pub left_by : Option (Motion × Bool) → Caret → List ℕ → List ℕ → List ℕ → List ℕ → List ℕ
left_by (Some (m, stop)) k t folds list room = sliced_by (class_refusal t (folds_of m folds) list k room) t list room
left_by None k t folds list room = room

abbrev pub words_by_class : ℕ → Bool → ℕ → Caret → List ℕ → List ℕ → List ℕ → List ℕ → Reply
words_by_class op big n k t folds list room = moved (by_term (term_of op) big n k t folds list room)

abbrev pub slices_left : ℕ → Caret → List ℕ → List ℕ → List ℕ → List ℕ → List ℕ
slices_left op k t folds list room = left_by (term_of op) k t folds list room
