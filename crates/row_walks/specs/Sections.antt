-- Sections: rows that begin with a mark, as the section motions of motions.rs walk to them.
-- Definitions only; the laws are in `proofs/Marks.antt`. Assumes nothing.
use Rattle.std.specs.Prelude.{◌≡◌, ℕ, zero, suc, ◌+◌, ◌≤◌, List, Bool, cond, ◌&&◌, get_or, length, eqb, ltb}
use Rattle.text.specs.Text.{row_at, row_len, last_row}
use Rattle.text.specs.Offsets.{IsLine}
use Rattle.text.specs.declared.Line.{Line}

-- row r begins with x
abbrev pub begins : List ℕ → ℕ → ℕ → Bool
begins t x r = ltb 0 (row_len t r) && eqb (get_or (row_at t r) 0 0) x

-- a row up at a time until n rows that begin with x are found; row 0 stops it
unfoldable pub section_up : List ℕ → ℕ → ℕ → ℕ → ℕ
section_up t x n zero = zero
section_up t x zero (suc row) = suc row
section_up t x (suc n) (suc row) = section_up t x (cond (begins t x row) n (suc n)) row

-- a row down at a time until n rows that begin with x are found, or none of the `rest` rows below is left.
-- `rest` is exact: one less with each row (`down_step`)
unfoldable pub section_down : List ℕ → ℕ → ℕ → ℕ → ℕ → ℕ
section_down t x n row zero = row
section_down t x zero row (suc rest) = row
section_down t x (suc n) row (suc rest) = section_down t x (cond (begins t x (row + 1)) n (suc n)) (row + 1) rest

-- what the walk up from a row requires, and what the walk down does, `last` the last row with content
pub record SectionReady (t : List ℕ) (from : Line) (x : ℕ) : Type 0 where
  pub line : IsLine t from
  pub no_separator : x ≡ 10 → ⊥

pub record DownReady (t : List ℕ) (from : Line) (last x : ℕ) : Type 0 where
  pub section : SectionReady t from x
  pub is_last : last ≡ last_row t

-- r is the row that such a walk leads to
pub record LeadsTo (t : List ℕ) (n r : ℕ) : Type 0 where
  pub row : r ≡ n
  pub inside : r ≤ length t
