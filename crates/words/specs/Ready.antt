-- What the walks of `src/` require. Definitions only. Assumes nothing.
use Rattle.std.specs.Prelude.{ℕ, ◌+◌, ◌≤◌, ◌≡◌, List, Bool, false, length}
use Rattle.word_kinds.specs.declared.Alphabet.{Alphabet}
use Rattle.lists.specs.Lists.{any}
use Rattle.keywords.specs.declared.KeywordSpec.{KeywordSpec}
use Rattle.word_kinds.specs.Lent.{is_high}
use Rattle.word_kinds.specs.declared.Spot.{Spot}
use Rattle.word_kinds.specs.declared.Setting.{Setting}
use Rattle.fold_stretches.specs.declared.Stretch.{Stretch}
use Rattle.fold_stretches.specs.Stretches.{NoFold}
use Rattle.word_rounds.specs.Turns.{Folded, Set}

-- rounds where a stretch of rows without closed folds is known
pub record NearReady (t folds : List ℕ) (k : Alphabet) (w : Stretch) (p : Spot) : Type 0 where
  pub round : Set t folds k p
  pub bare : NoFold folds w

-- a motion by bounds that hold the setting's pairs, and by what was made for the text
pub record BoundsReady (t folds bounds : List ℕ) (s : Setting) (p : Spot) : Type 0 where
  pub room : s.pairs + s.pairs ≤ length bounds
  pub folded : Folded t folds s.rows s.content p

pub record MadeReady (t folds bounds : List ℕ) (s : Setting) (high : Bool) (p : Spot) : Type 0 where
  pub bounded : BoundsReady t folds bounds s p
  pub none_high : high ≡ false → any is_high t ≡ false

-- a motion by a keyword list
pub record ListReady (t folds : List ℕ) (spec : KeywordSpec) (rows content : ℕ) (p : Spot) : Type 0 where
  pub folded : Folded t folds rows content p
  pub short : spec.len ≤ 128
