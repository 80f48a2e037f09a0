-- What a walk knows at a place, forward or back: what its direction says of the depth there, the place's row, and that no number is too large.
-- The depth's part is `Ahead` or `Behind`. Assumes nothing.
use Rattle.lists.proofs.Kit.{List, ℕ, ◌≤◌, length}
use Rattle.text.specs.Offsets.{Stands}

-- a walk that began with e brackets stands at `at`, where d are
pub record Walking (Deep : ℕ → ℕ → Type 0) (t : List ℕ) (e row start at d : ℕ) : Type 0 where
  pub so_far : Deep at d
  pub stands : Stands t row start at
  pub short : length t ≤ 1048576
  pub small : e ≤ 1048576

-- on to the next place, whatever is met
pub walking_on : {Deep : ℕ → ℕ → Type 0} {t : List ℕ} {e row start at d row' start' at' d' : ℕ} → Walking Deep t e row start at d → Deep at' d' →
    Stands t row' start' at' → Walking Deep t e row' start' at' d'
walking_on w p s = record { so_far = p; stands = s; short = w.short; small = w.small }
