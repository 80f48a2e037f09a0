-- The word motions on carets: the refusals of a call, and where the walks of `words` lead to. Motions.rs, "Word motions".
-- Definitions only. Assumes nothing.
use Rattle.std.specs.Prelude.{length, take, ◌≡◌, ℕ, ◌≤◌, List, [], ◌∷◌, Bool}
use Rattle.text_check.specs.Accept.{text_refusal}
use Rattle.text.specs.Text.{row_count, position}
use Rattle.text.specs.declared.Position.{Position}
use Rattle.folds.specs.Folds.{fold_refusal}
use Rattle.list_tokens.specs.Tokens.{in_list}
use Rattle.keywords.specs.Table.{parse_of}
use Rattle.word_kinds.specs.Places.{kind_of}
use Rattle.word_rounds.specs.declared.Motion.{Motion}
use Rattle.word_rounds.specs.declared.Motion.TheVariants.{Fwd, Back, End, EndBack}
use Rattle.word_rounds.specs.Rounds.{word_motion}
use Rattle.positions.specs.Positions.{lowest}
use Rattle.motions.specs.declared.Caret.{Caret}
use Rattle.motions.specs.declared.Moved.{Moved}
use Rattle.motions.specs.Carets.{caret_refusal, moving, placed}

-- the folds that a word motion takes: all, but none for `ge`
abbrev pub folds_of : Motion → List ℕ → List ℕ
folds_of Fwd folds = folds
folds_of Back folds = folds
folds_of End folds = folds
folds_of EndBack folds = []

-- text, caret, folds, and then 7 or 8 of the list
abbrev pub word_refusal : List ℕ → List ℕ → List ℕ → Caret → ℕ
word_refusal t folds list k = lowest (text_refusal t ∷ caret_refusal t k ∷ fold_refusal folds (row_count t) ∷ (parse_of list).refusal ∷ [])

-- a caret at a place
abbrev pub at_place : Caret → Position → Caret
at_place k p = placed k p.row p.col

-- where the motion leads to, by what is a word character
abbrev pub word_caret : List ℕ → List ℕ → (ℕ → Bool) → Bool → Motion → Bool → ℕ → Caret → Caret
word_caret t folds word big m stop count k = at_place k (word_motion t folds (kind_of word big) big m stop count (position k.row k.col))

abbrev pub move_word : List ℕ → List ℕ → List ℕ → Bool → Motion → Bool → ℕ → Caret → Moved
move_word t folds list big m stop count k = moving (word_refusal t folds list k) (word_caret t folds (in_list list) big m stop count k)

-- r is how many of the folds' numbers a motion takes
pub record Taken (m : Motion) (folds : List ℕ) (r : ℕ) : Type 0 where
  pub inside : r ≤ length folds
  pub part : take r folds ≡ folds_of m folds
