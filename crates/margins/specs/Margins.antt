-- The first and the last character of a row that is no blank, as motions.rs has them.
-- Definitions only; the laws are in `proofs/Edging.antt`. Assumes nothing.
use Rattle.std.specs.Prelude.{◌≡◌, ℕ, zero, suc, ◌-◌, min, ◌≤◌, List, [], ◌∷◌, Bool, cond, ◌||◌, eqb, length}
use Rattle.chars.specs.White.{is_white}
use Rattle.text.specs.Text.{row_at, last_col}
use Rattle.text.specs.Offsets.{IsLine}
use Rattle.text.specs.declared.Line.{Line}

-- how many blanks a row begins with: spaces and tabs, and no other white space
abbrev pub is_blank : ℕ → Bool
is_blank x = eqb x 32 || eqb x 9

unfoldable pub indent_of : List ℕ → ℕ
indent_of [] = zero
indent_of (x ∷ row) = cond (is_blank x) (suc (indent_of row)) zero

-- the first column that is no blank, or the last column where there is none
abbrev pub first_non_blank : List ℕ → ℕ → ℕ
first_non_blank t r = min (indent_of (row_at t r)) (last_col t r)

-- how many characters a row has up to the last that is no white space
unfoldable pub solid_of : List ℕ → ℕ
solid_of [] = zero
solid_of (x ∷ row) = let rest = solid_of row in cond (eqb rest 0) (cond (is_white x) 0 1) (suc rest)

-- the last column that is no white space, or column 0 where there is none
abbrev pub last_non_blank : List ℕ → ℕ → ℕ
last_non_blank t r = solid_of (row_at t r) - 1

-- what both calls require: the row with its start, in a text that is not too long
pub record BriefLine (t : List ℕ) (l : Line) : Type 0 where
  pub line : IsLine t l
  pub brief : length t ≤ 1048576

-- r is the column n of a text's row
pub record ColumnIs (n r : ℕ) : Type 0 where
  pub column : r ≡ n
  pub small : r ≤ 1048576
