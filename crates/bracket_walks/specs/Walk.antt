-- What the walks require: the place that they start from, and the two brackets that they count.
-- Definitions only. Assumes nothing.
use Rattle.std.specs.Prelude.{◌≡◌, List, ℕ, ◌≤◌, ◌<◌, length}
use Rattle.text.specs.Offsets.{Stands}
use Rattle.text.specs.declared.Line.{Line}

-- the offset stands on a code point of a short text, in the row given
pub record Starts (t : List ℕ) (l : Line) (at : ℕ) : Type 0 where
  pub stands : Stands t l.row l.start at
  pub inside : at < length t
  pub short : length t ≤ 1048576

-- an offset of a short text from which a walk goes on, with so many brackets open
pub record Goes (t : List ℕ) (row start at depth : ℕ) : Type 0 where
  pub stands : Stands t row start at
  pub short : length t ≤ 1048576
  pub deep : 1 ≤ depth
  pub bound : depth ≤ 1048576

-- two different brackets, neither of them a separator
pub record Hands (o c : ℕ) : Type 0 where
  pub differ : o ≡ c → ⊥
  pub open_char : o ≡ 10 → ⊥
  pub close_char : c ≡ 10 → ⊥
