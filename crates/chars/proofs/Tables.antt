-- The rule of each table, over the whole table: its bounds ascend, so that no range is empty and no two overlap or touch.
-- And what a table holds below a bound is what its bounds before that one hold. Assumes nothing.
use Rattle.lists.proofs.Kit.{◌≡◌, refl, [], ◌∷◌, ℕ, ◌<◌, drop, T}
use Rattle.ranges.specs.Ranges.{in_table, ascending}
use Rattle.ranges.proofs.Bounds.{table_low}
use Rattle.chars.specs.White.{whites, is_white}
use Rattle.chars.specs.Width.{zero_widths, double_widths}

pub whites_ascend : T (ascending whites)
unfolding whites
whites_ascend = tt

pub zero_widths_ascend : T (ascending zero_widths)
unfolding zero_widths
zero_widths_ascend = tt

pub double_widths_ascend : T (ascending double_widths)
unfolding double_widths
double_widths_ascend = tt

module _ (x : ℕ) where
  pub white_low : x < 0x1680 → is_white x ≡ in_table x (0x9 ∷ 0xe ∷ 0x20 ∷ 0x21 ∷ 0x85 ∷ 0x86 ∷ 0xa0 ∷ 0xa1 ∷ [])
  unfolding is_white whites
  white_low h = table_low x (0x9 ∷ 0xe ∷ 0x20 ∷ 0x21 ∷ 0x85 ∷ 0x86 ∷ 0xa0 ∷ 0xa1 ∷ []) 0x1680 (drop 9 whites) whites refl whites_ascend h

  pub zero_width_low : x < 0x300 → in_table x zero_widths ≡ in_table x (0 ∷ 1 ∷ [])
  unfolding zero_widths
  zero_width_low h = table_low x (0 ∷ 1 ∷ []) 0x300 (drop 3 zero_widths) zero_widths refl zero_widths_ascend h

  pub double_width_low : x < 0x1100 → in_table x double_widths ≡ in_table x []
  unfolding double_widths
  double_width_low h = table_low x [] 0x1100 (drop 1 double_widths) double_widths refl double_widths_ascend h
