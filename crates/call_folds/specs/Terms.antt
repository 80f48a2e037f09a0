-- The word motions by the number that stands for each. Cited by `call_folds::terms`; number by number in `proofs/Numbers.antt`.
-- Assumes nothing.
use Rattle.std.specs.Prelude.{ℕ, List, Bool, true, false, cond, not, eqb, Option, Some, None}
use Rattle.motions.specs.declared.Move.{Move}
use Rattle.word_rounds.specs.declared.Motion.TheVariants.{Fwd, Back, End, EndBack}
use Rattle.motions.specs.declared.Caret.{Caret}
use Rattle.motions.specs.declared.Move.TheVariants.{Word}
use Rattle.motions.specs.declared.Moved.{Moved}
use Rattle.call_bytes.specs.Reply.{Reply}
use Rattle.call_texts.specs.Asks.{move_as}
use Rattle.call_texts.specs.Carets.{moved}

abbrev pub is_big : ℕ → Bool
is_big n = not (eqb n 0)

unfoldable pub word_of : ℕ → Bool → Option Move
word_of op big =
    cond (eqb op 0) (Some (Word Fwd big false))
    (cond (eqb op 1) (Some (Word Back big false))
    (cond (eqb op 2) (Some (Word End big false))
    (cond (eqb op 3) (Some (Word End big true))
    (cond (eqb op 4) (Some (Word EndBack big false))
    None))))

-- the answer of the motion; 100 where the number stands for none
unfoldable pub word : ℕ → Bool → ℕ → Caret → List ℕ → List ℕ → List ℕ → Moved
word op big n k t folds list = move_as (word_of op big) n k t folds list 0

abbrev pub words : ℕ → Bool → ℕ → Caret → List ℕ → List ℕ → List ℕ → Reply
words op big n k t folds list = moved (word op big n k t folds list)
