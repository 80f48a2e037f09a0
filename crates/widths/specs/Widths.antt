-- What the contracts of `src/lib.rt`, and of every call whose answer depends on widths, cite: the width under a setting.
-- Document 02, #107. Definitions only; that the table lent under `Wide` gives it is `width_lent` in `proofs/Lent.antt`. Assumes nothing.
use Rattle.std.specs.Prelude.{ℕ, ◌≡◌, Bool, cond, ◌&&◌, eqb}
use Rattle.ranges.specs.Ranges.{in_table}
use Rattle.chars.specs.declared.Measure.{Measure}
use Rattle.chars.specs.Width.{width_of, width_with, Measures}
use Rattle.widths.specs.declared.Ambiguous.{Ambiguous}
use Rattle.widths.specs.declared.Ambiguous.TheVariants.{Narrow, Wide}
unfoldable pub use Rattle.widths.specs.ClassTable.{class_a}

-- x is of class A
unfoldable pub is_ambiguous : ℕ → Bool
is_ambiguous x = in_table x class_a

-- wide makes each character of the class whose width is 1 take 2
unfoldable pub wide_width : ℕ → ℕ
wide_width x = cond (is_ambiguous x && eqb (width_of x) 1) 2 (width_of x)

unfoldable pub width_as : Ambiguous → ℕ → ℕ
width_as Narrow = width_of
width_as Wide = wide_width

-- what a walk over widths is lent under a setting: tables that it can go by, and by which the widths are those of the setting
pub record Lends (a : Ambiguous) (m : Measure) : Type 0 where
  pub fit : Measures m
  pub same : width_with m ≡ width_as a
