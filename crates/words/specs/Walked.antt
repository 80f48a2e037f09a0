-- What rounds from a known stretch come to. Definitions only. Assumes nothing.
use Rattle.std.specs.Prelude.{ℕ, List, Bool, false}
use Rattle.text.specs.declared.Position.{Position}
use Rattle.word_kinds.specs.Spots.{Lands}
use Rattle.fold_stretches.specs.Stretches.{NoFold}
use Rattle.word_rounds.specs.declared.Motion.{Motion}
use Rattle.word_rounds.specs.Rounds.{round_of, counted}
use Rattle.words.specs.declared.Walked.{Walked}

-- the place is that of the count's rounds from p, and no row of the stretch has a closed fold
pub record Rounded (t folds : List ℕ) (kind : ℕ → ℕ) (big : Bool) (m : Motion) (count : ℕ) (p : Position) (r : Walked) : Type 0 where
  pub lands : Lands t r.spot (counted (round_of t folds kind big m false) count p)
  pub bare : NoFold folds r.stretch
