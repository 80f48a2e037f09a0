-- What the code's rounds say of places, and what a round requires of what its caller checked.
-- Definitions only. Assumes nothing.
use Rattle.std.specs.Prelude.{ℕ, ◌<◌, ◌≡◌, List, Option, Some, None}
use Rattle.word_kinds.specs.declared.Alphabet.{Alphabet}
use Rattle.text.specs.Text.{row_count, content_rows}
use Rattle.folds.specs.Folds.{fold_refusal}
use Rattle.word_kinds.specs.Spots.{place_of, IsSpot, Tells}
use Rattle.word_kinds.specs.Lent.{Bounds}
use Rattle.word_kinds.specs.declared.Spot.{Spot}
use Rattle.word_kinds.specs.declared.Setting.{Setting}
use Rattle.word_rounds.specs.Rounds.{Turn, On, Off}
use Rattle.word_ends.specs.declared.Turn as code
use Rattle.word_ends.specs.declared.Turn.TheVariants as variant

-- a round's answer: the word found, or the spot from which none was found
abbrev pub turned : Spot → Option Spot → code.Turn Spot
turned from (Some q) = variant.On q
turned from None = variant.Off from

-- what a round's answer says of places
abbrev pub turn_of : List ℕ → code.Turn Spot → Turn
turn_of t (variant.On q) = On (place_of t q)
turn_of t (variant.Off q) = Off (place_of t q)

-- its spot is one of the text
abbrev pub TurnIn : List ℕ → code.Turn Spot → Type 0
TurnIn t (variant.On q) = IsSpot t q
TurnIn t (variant.Off q) = IsSpot t q

-- the round ended so, at a spot of the text
abbrev pub ComesTo : List ℕ → code.Turn Spot → Turn → Type 0
ComesTo t = Tells (turn_of t) (TurnIn t)

-- what the way from a spot to a row requires, a jump out of a fold, and a round
pub record SpotReady (t : List ℕ) (p : Spot) (row : ℕ) : Type 0 where
  pub spot : IsSpot t p
  pub in_rows : row < row_count t

pub record Folded (t folds : List ℕ) (rows content : ℕ) (p : Spot) : Type 0 where
  pub good : fold_refusal folds rows ≡ 0
  pub all_rows : rows ≡ row_count t
  pub content_rows : content ≡ content_rows t
  pub spot : IsSpot t p

pub record Set (t folds : List ℕ) (k : Alphabet) (p : Spot) : Type 0 where
  pub lent : Bounds t k
  pub folded : Folded t folds k.setting.rows k.setting.content p
