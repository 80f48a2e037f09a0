-- What the contracts of `src/cell_widths.rt` and of every walk over widths cite: the width in cells, by tables of the widths other than 1.
-- Document 01, "Character facts". Definitions only; that no width is above 4 is `width_most` in `proofs/Facts.antt`, and that the generated
-- tables are as `Widths` says is `widths_lent` in `proofs/Lent.antt`. Assumes nothing.
use Rattle.std.specs.Prelude.{ℕ, ◌<◌, ◌≡◌, List, [], ◌∷◌, Bool, false, cond, T, eqb, ltb}
use Rattle.chars.specs.declared.Measure.{Measure}
use Rattle.ranges.specs.Ranges.{in_table, ascending}
unfoldable pub use Rattle.chars.specs.WidthTables.{zero_widths, double_widths}

-- the width of x by a table of what has no cell and one of what has two; what is in neither has one
unfoldable pub width_by : List ℕ → List ℕ → ℕ → ℕ
width_by zeros doubles x = cond (in_table x zeros) 0 (cond (in_table x doubles) 2 1)

-- by the generated tables
unfoldable pub width_of : ℕ → ℕ
width_of = width_by zero_widths double_widths

-- the width of a low code point: U+0000 has no cell, and any other has one
abbrev pub low_width : ℕ → ℕ
low_width x = cond (eqb x 0) 0 1

-- x is below the first number of a table, so in none of its ranges
unfoldable pub starts_after : List ℕ → ℕ → Bool
starts_after [] x = false
starts_after (b ∷ bs) x = ltb x b

-- all that a walk requires of the tables that it is lent: each ascends, and below U+0300 only U+0000 has no cell
pub record Widths (zeros doubles : List ℕ) : Type 0 where
  pub zeros_ascend : T (ascending zeros)
  pub doubles_ascend : T (ascending doubles)
  pub low : (x : ℕ) → x < 0x300 → in_table x zeros ≡ eqb x 0

-- the same by what is lent, as a whole
abbrev pub width_with : Measure → ℕ → ℕ
width_with m = width_by m.zeros.now m.doubles.now

abbrev pub Measures : Measure → Type 0
Measures m = Widths m.zeros.now m.doubles.now
