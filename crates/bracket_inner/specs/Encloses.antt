-- When a pair of demand 3 encloses a position, and when it is the innermost one that does. From document 02, #101. A pair is `PairAt`: an answer of
-- `matching_bracket_pos`. Definitions only. Assumes nothing.
use Rattle.std.specs.Prelude.{◌≡◌, ◌⊎◌, List, ℕ, ◌≤◌, ◌<◌}
use Rattle.bracket_kinds.specs.declared.Kind.{Kind}
use Rattle.text.specs.declared.Position.{Position}
use Rattle.bracket_laws.specs.Demand.{PairAt, Before}

-- p stands before q in the text, or at the same place
abbrev pub Upto : Position → Position → Type 0
Upto p q = (p.row < q.row) ⊎ ((p.row ≡ q.row) × (p.col ≤ q.col))

-- the pair with its brackets at p and q encloses x: x stands on one of them, or between them
pub record Encloses (k : Kind) (t : List ℕ) (x p q : Position) : Type 0 where
  pub pair : PairAt k t p q
  pub from : Upto p x
  pub to : Upto x q

-- the pair at p and q stands inside that at p' and q', and shares no bracket with it
abbrev pub Within : Position → Position → Position → Position → Type 0
Within p q p' q' = Before p' p × Before q q'

-- the innermost pair around x: it encloses x, and every other one that does encloses it
pub record Innermost (k : Kind) (t : List ℕ) (x p q : Position) : Type 0 where
  pub encloses : Encloses k t x p q
  pub others : (p' q' : Position) → Encloses k t x p' q' → ((p ≡ p') × (q ≡ q')) ⊎ Within p q p' q'
