-- What lent places hold after a call. Definitions only. Assumes nothing.
use Rattle.std.specs.Prelude.{ℕ, ◌≤◌, ◌≡◌, List, ◌++◌, length, take, drop}

-- s stands at the start of out, all else is as it was, and r is how many bytes s has. The last two follow
pub record Printed (out s : List ℕ) (r : ℕ) (out' : List ℕ) : Type 0 where
  pub count : r ≡ length s
  pub front : out' ≡ s ++ drop r out
  pub within : r ≤ length out'
  pub counts : r ≡ length (take r out')
