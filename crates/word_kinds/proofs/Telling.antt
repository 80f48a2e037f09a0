-- What an answer of the code tells: of the answer that it is known to be, and in other words. Steps between two offsets. Assumes nothing.
use Rattle.lists.proofs.Kit.{◌≡◌, refl, ap, ◌∙◌, List, ℕ, ◌≤◌, ◌<◌, arith, Option, Some, None}
use Rattle.text.specs.declared.Position.{Position}
use Rattle.word_kinds.specs.Places.{Step, To, Nowhere}
use Rattle.word_kinds.specs.Spots.{place_of, IsSpot, Tells, Lands, Reaches, Steps}
use Rattle.word_kinds.specs.declared.Spot.{Spot}

module _ {A B : Type 0} {meaning : A → B} {Sound : A → Type 0} {r : A} {w : B} (told : Tells meaning Sound r w) where
  pub tells_as : {x : A} → r ≡ x → Tells meaning Sound x w
  tells_as e = rw e at told

  pub tells_too : {v : B} → w ≡ v → Tells meaning Sound r v
  tells_too e = record { place = told.place ∙ e; inside = told.inside }

-- a spot of the text is at its place; a step to a spot at a place
pub lands_here : {t : List ℕ} {q : Spot} → IsSpot t q → Lands t q (place_of t q)
lands_here i = record { place = refl; inside = i }

pub lands_reaches : {t : List ℕ} {q : Spot} {p : Position} → Lands t q p → Reaches t (Some q) (To p)
lands_reaches told = record { place = ap To told.place; inside = told.inside }

module _ {t : List ℕ} {low high : ℕ} {w : Step} where
  pub steps_to : {q : Spot} → Reaches t (Some q) w → low ≤ q.at → q.at < high → Steps t low high (Some q) w
  steps_to told l h = record { place = told.place; inside = record { spot = told.inside; from = l; below = h } }

  pub steps_nowhere : Nowhere ≡ w → Steps t low high None w
  steps_nowhere e = record { place = e; inside = tt }

  -- a step that goes at least so far
  pub steps_low : {less : ℕ} (r : Option Spot) → Steps t low high r w → less ≤ low → Steps t less high r w
  steps_low (Some q) told h =
      record { place = told.place; inside = record { spot = told.inside.spot; from = omega (arith, told.inside.from); below = told.inside.below } }
  steps_low None told h = record { place = told.place; inside = tt }
