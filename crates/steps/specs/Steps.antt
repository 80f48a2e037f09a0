-- One character on or back from row to row, as motions.rs has it under "Horizontal motions".
-- Definitions only; the laws are in `proofs/Stepping.antt`. Assumes nothing.
use Rattle.std.specs.Prelude.{ℕ, ◌+◌, ◌-◌, max, List, cond, ltb}
use Rattle.text.specs.Text.{row_count, last_col, position}
use Rattle.text.specs.declared.Position.{Position}

-- count 0 acts as 1
abbrev pub times : ℕ → ℕ
times n = max n 1

-- the next column; from the last one on, the first column of the next row, where there is one
unfoldable pub space_fwd : List ℕ → Position → Position
space_fwd t p =
    cond (ltb p.col (last_col t p.row)) (position p.row (p.col + 1)) (cond (ltb (p.row + 1) (row_count t)) (position (p.row + 1) 0) p)

-- the column before; from the first one, the last column of the row before, where there is one
unfoldable pub backspace_back : List ℕ → Position → Position
backspace_back t p =
    cond (ltb 0 p.col) (position p.row (p.col - 1)) (cond (ltb 0 p.row) (position (p.row - 1) (last_col t (p.row - 1))) p)
