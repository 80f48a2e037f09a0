-- What the code keeps for a place: its row, and its offset in the text; and what its answers say of places.
-- Definitions only. Assumes nothing.
use Rattle.std.specs.Prelude.{ℕ, ◌-◌, ◌≤◌, ◌<◌, ◌≡◌, List, length, get_or, Option, Some, None}
use Rattle.text.specs.Offsets.{row_start, Stands}
use Rattle.text.specs.declared.Position.{Position}
use Rattle.word_kinds.specs.Places.{Step, To, Nowhere}
use Rattle.word_kinds.specs.declared.Spot.{Spot}

-- the place of a spot
abbrev pub place_of : List ℕ → Spot → Position
place_of t p = record { row = p.row; col = p.at - row_start t p.row }

abbrev pub IsSpot : List ℕ → Spot → Type 0
IsSpot t p = Stands t p.row (row_start t p.row) p.at

-- an answer of the code, over spots, and what it tells: an answer of the definitions, over places. Its spots are as they should be
pub record Tells {A B : Type 0} (meaning : A → B) (Sound : A → Type 0) (answer : A) (told : B) : Type 0 where
  pub place : meaning answer ≡ told
  pub inside : Sound answer

-- the spot is one of the text, at a place
abbrev pub Lands : List ℕ → Spot → Position → Type 0
Lands t = Tells (place_of t) (IsSpot t)

-- the code's step, over places; and one whose spot, if there is one, is as it should be
abbrev pub step_of : List ℕ → Option Spot → Step
step_of t (Some q) = To (place_of t q)
step_of t None = Nowhere

abbrev pub Where : (Spot → Type 0) → Option Spot → Type 0
Where Sound (Some q) = Sound q
Where Sound None = Unit {0}

-- the step leads to a spot of the text, or nowhere
abbrev pub Reaches : List ℕ → Option Spot → Step → Type 0
Reaches t = Tells (step_of t) (Where (IsSpot t))

-- the same, to a spot between two offsets, so that each step goes one way
pub record Between (t : List ℕ) (low high : ℕ) (q : Spot) : Type 0 where
  pub spot : IsSpot t q
  pub from : low ≤ q.at
  pub below : q.at < high

abbrev pub Steps : List ℕ → ℕ → ℕ → Option Spot → Step → Type 0
Steps t low high = Tells (step_of t) (Where (Between t low high))

-- the offset `end` is the separator that ends a row
pub record Ends (t : List ℕ) (row end : ℕ) : Type 0 where
  pub stands : Stands t row (row_start t row) end
  pub within : end < length t
  pub nl : get_or t end 0 ≡ 10
