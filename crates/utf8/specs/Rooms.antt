-- What the functions of `src/` require: how far a walk is to go, and that there is room for what is written. Definitions only. Assumes nothing.
use Rattle.std.specs.Prelude.{ℕ, ◌+◌, ◌-◌, ◌≤◌, ◌≡◌, List, false, length, take, drop}
use Rattle.lists.specs.Lists.{any}
use Rattle.chars.specs.Scalar.{not_scalar}
use Rattle.utf8.specs.Encoding.{is_above, encoding, utf8}
use Rattle.utf8.specs.Walks.{Counts, Holds}

-- n code points are counted, and the count is to go on to an index of the bytes
pub record CountsUntil (b : List ℕ) (at n until : ℕ) : Type 0 where
  pub counts : Counts b at n
  pub inside : until ≤ length b

-- n code points are written, and the writing is to go on so
pub record HoldsUntil (b : List ℕ) (at n : ℕ) (points : List ℕ) (until : ℕ) : Type 0 where
  pub holds : Holds b at n points
  pub inside : until ≤ length b

-- and all bytes up to there are ASCII
pub record PlainUntil (b : List ℕ) (at n : ℕ) (points : List ℕ) (until : ℕ) : Type 0 where
  pub written : HoldsUntil b at n points until
  pub ascii : any is_above (take (until - at) (drop at b)) ≡ false

-- a code point, and room for its bytes
pub record PointRoom (x at : ℕ) (bytes : List ℕ) : Type 0 where
  pub point : x ≤ 0x10ffff
  pub room : at + length (encoding x) ≤ length bytes

-- a text of scalar values, and room for its bytes
pub record TextRoom (points bytes : List ℕ) : Type 0 where
  pub scalar : any not_scalar points ≡ false
  pub room : length (utf8 points) ≤ length bytes
