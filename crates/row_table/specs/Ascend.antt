-- Starts that begin with 0, ascend, and stand behind a separator each. Definitions only; that they are all row starts where they are as many as the rows
-- is `ascend_all` of `proofs/Ascend.antt`. Assumes nothing.
use Rattle.std.specs.Prelude.{ℕ, ◌+◌, ◌-◌, ◌≤◌, ◌<◌, ◌≡◌, List, Bool, true, false, length, get_or}
use Rattle.text.specs.Offsets.{row_of, Stands}
use Rattle.row_table.specs.Table.{holds_rows}

-- the start in place j of the first i: it begins a row, whose number is no less than j; from there to the last of them the rows ascend
pub record Mark (t starts : List ℕ) (i j : ℕ) : Type 0 where
  pub begins : Stands t (row_of t (get_or starts j 0)) (get_or starts j 0) (get_or starts j 0)
  pub low : j ≤ row_of t (get_or starts j 0)
  pub high : row_of t (get_or starts j 0) + (i - 1) ≤ row_of t (get_or starts (i - 1) 0) + j

-- the first i starts
pub record Ascend (t starts : List ℕ) (i : ℕ) : Type 0 where
  pub some : 0 < i
  pub marks : (j : ℕ) → j < i → Mark t starts i j

-- what a test of the starts from place `from` on requires: those before it ascend, and the table has so many places
pub record GoingOn (t starts : List ℕ) (from rows : ℕ) : Type 0 where
  pub ascend : Ascend t starts from
  pub order : from ≤ rows
  pub room : rows ≤ length starts

-- what a test says of the first starts: yes of those that go on so alone, and no of no table of the text
pub record GoesOn (t starts : List ℕ) (rows : ℕ) (r : Bool) : Type 0 where
  pub ascend : r ≡ true → Ascend t starts rows
  pub other : r ≡ false → holds_rows t rows starts ≡ false
