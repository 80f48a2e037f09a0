-- What the functions of `src/` require: a text with its table, and what a jump, a run and the call's end stand on. Definitions only. Assumes nothing.
use Rattle.std.specs.Prelude.{ℕ, ◌+◌, ◌≤◌, ◌<◌, ◌≡◌, List, false, length}
use Rattle.word_kinds.specs.declared.Alphabet.{Alphabet}
use Rattle.text_check.specs.Accept.{text_refusal}
use Rattle.text.specs.Text.{row_count}
use Rattle.text.specs.declared.Position.{Position}
use Rattle.positions.specs.declared.Entry.{Entry}
use Rattle.positions.specs.Positions.{Inside, Accepted}
use Rattle.folds.specs.Folds.{fold_refusal}
use Rattle.fold_stretches.specs.declared.Stretch.{Stretch}
use Rattle.fold_stretches.specs.Stretches.{NoFold}
use Rattle.keywords.specs.declared.KeywordSpec.{KeywordSpec}
use Rattle.word_kinds.specs.declared.Spot.{Spot}
use Rattle.word_kinds.specs.declared.Setting.{Setting}
use Rattle.word_kinds.specs.Spots.{IsSpot}
use Rattle.word_rounds.specs.Turns.{Set, Folded}
use Rattle.motions.specs.declared.Caret.{Caret}
use Rattle.motions.specs.Carets.{here}
use Rattle.jumps.specs.Jumps.{kind_refusal}
use Rattle.jumps.specs.Leaps.{IsTable}

-- a row of a text with its table
pub record TabledRow (t table : List ℕ) (row : ℕ) : Type 0 where
  pub tabled : IsTable t table
  pub in_row : row < row_count t

-- a place of an accepted text with its table
pub record TabledPlace (t table : List ℕ) (q : Position) : Type 0 where
  pub clear : text_refusal t ≡ 0
  pub tabled : IsTable t table
  pub inside : Inside t q

-- a spot of it
pub record TabledSpot (t table : List ℕ) (p : Spot) : Type 0 where
  pub clear : text_refusal t ≡ 0
  pub tabled : IsTable t table
  pub spot : IsSpot t p

-- what jumps from a place require: a text that is accepted with its table, and what a round of small words requires
pub record Footing (t table folds : List ℕ) (k : Alphabet) (p : Spot) : Type 0 where
  pub clear : text_refusal t ≡ 0
  pub tabled : IsTable t table
  pub small : k.setting.big ≡ false
  pub round : Set t folds k p

-- and of their list and the places for their answers
pub record Course (jumps answers : List ℕ) : Type 0 where
  pub kinds : kind_refusal jumps ≡ 0
  pub room : length jumps ≤ length answers

-- one jump, with a stretch of rows without closed folds
pub record LeapFooting (t table folds : List ℕ) (k : Alphabet) (w : Stretch) (p : Spot) : Type 0 where
  pub footing : Footing t table folds k p
  pub bare : NoFold folds w

-- the jump at place i of a list, with two places for its answers
pub record JumpFooting (t table folds : List ℕ) (k : Alphabet) (jumps : List ℕ) (i : ℕ) (answers : List ℕ) (w : Stretch) (p : Spot) :
    Type 0 where
  pub leap : LeapFooting t table folds k w p
  pub listed : i + 1 < length jumps
  pub room : i + 1 < length answers

-- all jumps of a list
pub record RunFooting (t table folds : List ℕ) (k : Alphabet) (jumps answers : List ℕ) (p : Spot) : Type 0 where
  pub footing : Footing t table folds k p
  pub course : Course jumps answers

-- the same where the ranges of the letters are still to be named
pub record LettersFooting (t table folds bounds : List ℕ) (s : Setting) (jumps answers : List ℕ) (p : Spot) : Type 0 where
  pub clear : text_refusal t ≡ 0
  pub tabled : IsTable t table
  pub small : s.big ≡ false
  pub room : s.pairs + s.pairs ≤ length bounds
  pub folded : Folded t folds s.rows s.content p
  pub course : Course jumps answers

-- the same by a keyword list
pub record ListFooting (t table folds : List ℕ) (spec : KeywordSpec) (rows content : ℕ) (jumps answers : List ℕ) (p : Spot) : Type 0 where
  pub clear : text_refusal t ≡ 0
  pub tabled : IsTable t table
  pub short : spec.len ≤ 128
  pub folded : Folded t folds rows content p
  pub course : Course jumps answers

-- the same from a caret that is accepted
pub record CaretFooting (t table folds : List ℕ) (spec : KeywordSpec) (k : Caret) (e : Entry) (jumps answers : List ℕ) : Type 0 where
  pub clear : text_refusal t ≡ 0
  pub tabled : IsTable t table
  pub short : spec.len ≤ 128
  pub accepted : Accepted t (here k) e
  pub good : fold_refusal folds (row_count t) ≡ 0
  pub course : Course jumps answers
