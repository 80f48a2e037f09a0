-- The rule of each table, over the whole table, and that the tables agree: each is made from one list of stretches, by what holds in them. Assumes nothing.
use Rattle.lists.proofs.Kit.{◌≡◌, refl, ◌∷◌, Bool, ◌||◌, ℕ, drop, T, eqb}
use Rattle.ranges.specs.Ranges.{in_table, ascending}
use Rattle.chars.specs.Width.{zero_widths, double_widths}
use Rattle.chars.proofs.Tables.{zero_widths_ascend, double_widths_ascend}
use Rattle.widths.specs.Widths.{class_a}
use Rattle.widths.proofs.WideTable.{wide_doubles}
use Rattle.widths.proofs.ClassedTable.{classed}
use Rattle.widths.proofs.Stretches.{kind_from, bounds_of, climbing, in_stretches}

pub class_ascends : T (ascending class_a)
unfolding class_a
class_ascends = tt

pub wide_doubles_ascend : T (ascending wide_doubles)
unfolding wide_doubles
wide_doubles_ascend = tt

-- what holds in a stretch of each kind: the width, with 4 added in class A
abbrev pub is_none : ℕ → Bool
is_none k = eqb k 0 || eqb k 4

abbrev pub is_two : ℕ → Bool
is_two k = eqb k 2 || eqb k 6

abbrev pub is_classed : ℕ → Bool
is_classed k = eqb k 4 || (eqb k 5 || eqb k 6)

abbrev pub is_two_wide : ℕ → Bool
is_two_wide k = eqb k 2 || (eqb k 5 || eqb k 6)

abbrev pub kind : ℕ → ℕ
kind x = kind_from 1 (0 ∷ 0 ∷ drop 2 classed) x

classed_climbs : T (climbing 0 (drop 2 classed))
unfolding classed climbing
classed_climbs = tt

module _ (x : ℕ) where
  pub none_in : in_table x zero_widths ≡ is_none (kind x)
  unfolding zero_widths classed bounds_of
  none_in = in_stretches is_none x zero_widths 1 0 (drop 2 classed) zero_widths_ascend classed_climbs refl

  pub two_in : in_table x double_widths ≡ is_two (kind x)
  unfolding double_widths classed bounds_of
  two_in = in_stretches is_two x double_widths 1 0 (drop 2 classed) double_widths_ascend classed_climbs refl

  pub class_in : in_table x class_a ≡ is_classed (kind x)
  unfolding class_a classed bounds_of
  class_in = in_stretches is_classed x class_a 1 0 (drop 2 classed) class_ascends classed_climbs refl

  pub wide_in : in_table x wide_doubles ≡ is_two_wide (kind x)
  unfolding wide_doubles classed bounds_of
  wide_in = in_stretches is_two_wide x wide_doubles 1 0 (drop 2 classed) wide_doubles_ascend classed_climbs refl
