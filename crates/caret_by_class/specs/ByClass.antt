-- The word motions of the second engine on carets: the first engine's, and one refusal more. Document 02, #113.
-- Definitions only. Assumes nothing.
use Rattle.std.specs.Prelude.{ℕ, ◌≡◌, List, [], ◌∷◌, Bool}
use Rattle.text_check.specs.Accept.{text_refusal}
use Rattle.text.specs.Text.{row_count}
use Rattle.folds.specs.Folds.{fold_refusal}
use Rattle.list_tokens.specs.Tokens.{in_list}
use Rattle.keywords.specs.declared.KeywordSpec.{KeywordSpec}
use Rattle.keywords.specs.Table.{parse_of}
use Rattle.positions.specs.Positions.{lowest}
use Rattle.word_classes.specs.Call.{places_refusal}
use Rattle.word_classes.specs.Classes.{classes_of, holding, Writable}
use Rattle.word_rounds.specs.declared.Motion.{Motion}
use Rattle.motions.specs.declared.Caret.{Caret}
use Rattle.motions.specs.declared.Moved.{Moved}
use Rattle.motions.specs.Carets.{caret_refusal, moving, Inside}
use Rattle.motions.specs.WordMoves.{word_caret}

-- the first engine's refusals, and then 14
abbrev pub class_refusal : List ℕ → List ℕ → List ℕ → Caret → List ℕ → ℕ
class_refusal t folds list k room =
    lowest (text_refusal t ∷ caret_refusal t k ∷ fold_refusal folds (row_count t) ∷ (parse_of list).refusal ∷ places_refusal t room ∷ [])

-- the first engine's answer
abbrev pub move_by_class : List ℕ → List ℕ → List ℕ → Bool → Motion → Bool → ℕ → Caret → List ℕ → Moved
move_by_class t folds list big m stop count k room = moving (class_refusal t folds list k room) (word_caret t folds (in_list list) big m stop count k)

-- what a motion requires: inputs that were accepted
pub record Movable (t own : List ℕ) (spec : KeywordSpec) (k : Caret) (room : List ℕ) : Type 0 where
  pub writable : Writable t spec room
  pub inside : Inside t k
  pub good : fold_refusal own (row_count t) ≡ 0

-- where a motion leads to, of inputs that were accepted: the first engine's caret, and the classes at the front of the slice
pub record Written (t own : List ℕ) (word : ℕ → Bool) (big : Bool) (m : Motion) (stop : Bool) (count : ℕ) (k : Caret) (room : List ℕ) (r : Caret)
    (room' : List ℕ) : Type 0 where
  pub answer : r ≡ word_caret t own word big m stop count k
  pub left : room' ≡ holding (classes_of word t) room
