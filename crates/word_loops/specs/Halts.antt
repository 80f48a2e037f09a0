-- What the code's answer says of the place where a loop ended. Cited by the contracts of `src/walks.rt`.
-- Definitions only. Assumes nothing.
use Rattle.std.specs.Prelude.{ℕ, List}
use Rattle.word_kinds.specs.Spots.{place_of, IsSpot, Tells}
use Rattle.word_loops.specs.Walks.{Halt, Onto, Stuck}
use Rattle.word_kinds.specs.declared.Spot.{Spot}
use Rattle.word_ends.specs.declared.Halt as code
use Rattle.word_ends.specs.declared.Halt.TheVariants as variant

abbrev pub halt_of : List ℕ → code.Halt Spot → Halt
halt_of t (variant.Onto q) = Onto (place_of t q)
halt_of t (variant.Stuck q) = Stuck (place_of t q)

-- its spot is one of the text
abbrev pub HaltIn : List ℕ → code.Halt Spot → Type 0
HaltIn t (variant.Onto q) = IsSpot t q
HaltIn t (variant.Stuck q) = IsSpot t q

-- the loop ended so, at a spot of the text
abbrev pub Stops : List ℕ → code.Halt Spot → Halt → Type 0
Stops t = Tells (halt_of t) (HaltIn t)
