-- What the walks around a position require and ask: the offset, its row and the position, and what stands there. Definitions only. Assumes nothing.
use Rattle.std.specs.Prelude.{◌≡◌, Bool, ◌&&◌, List, ℕ, ◌≤◌, eqb, ltb, length, get_or}
use Rattle.text.specs.Offsets.{Stands}
use Rattle.text.specs.declared.Line.{Line}
use Rattle.text.specs.declared.Position.{Position}
use Rattle.bracket_walks.specs.Matching.{pos_of}
use Rattle.bracket_walks.specs.Walk.{Goes, Hands}

-- the offset `at` of a short text stands in the row `l`, and x is its position
pub record Stays (t : List ℕ) (l : Line) (at : ℕ) (x : Position) : Type 0 where
  pub stands : Stands t l.row l.start at
  pub short : length t ≤ 1048576
  pub place : x ≡ pos_of t at

-- the columns of a pair's brackets are in a short text
pub record BriefPair (p q : Position) : Type 0 where
  pub first : p.col ≤ 1048576
  pub second : q.col ≤ 1048576

-- the walk on from the offset `at` of the row `l` seeks the close of the open at p
pub record OpenBefore (t : List ℕ) (l : Line) (at : ℕ) (p : Position) (o c : ℕ) : Type 0 where
  pub goes : Goes t l.row l.start at 1
  pub hands : Hands o c
  pub brief : p.col ≤ 1048576

-- the code point x stands at the offset
abbrev pub stands_at : List ℕ → ℕ → ℕ → Bool
stands_at t at x = ltb at (length t) && eqb (get_or t at 0) x
