-- What the functions of `src/` require where they write more than one code point: what is written is there, and there is room for it.
-- Definitions only. Assumes nothing.
use Rattle.std.specs.Prelude.{ℕ, ◌+◌, ◌≤◌, List, length}
use Rattle.vim_reader.specs.declared.VimSpec.{VimSpec}
use Rattle.vim_reader.specs.Table.{kept}
use Rattle.vim_writer.specs.Written.{written}

-- the first n of s, and room for them from an index on
pub record PartRoom (s : List ℕ) (n at : ℕ) (out : List ℕ) : Type 0 where
  pub there : n ≤ length s
  pub room : at + n ≤ length out

-- a table that is not too long, and room for its list
pub record ListRoom (spec : VimSpec) (room : List ℕ) : Type 0 where
  pub short : spec.len ≤ 128
  pub fits : length (written (kept spec)) ≤ length room
