-- Facts that other crates cite: no width by any tables is above 4, and the classes of some code points. Assumes nothing.
use Rattle.lists.proofs.Kit.{◌≡◌, refl, List, Bool, true, false, cond, ℕ, ◌≤◌, arith}
use Rattle.ranges.specs.Ranges.{in_table}
use Rattle.chars.specs.White.{whites, is_white}
use Rattle.chars.specs.Width.{width_by}

pub width_most : (zeros doubles : List ℕ) (x : ℕ) → width_by zeros doubles x ≤ 4
unfolding width_by
width_most zeros doubles x = most (in_table x zeros) (in_table x doubles)
  where
    most : (z d : Bool) → cond z 0 (cond d 2 1) ≤ 4
    most true d = omega arith
    most false true = omega arith
    most false false = omega arith

pub tab_white : is_white 0x9 ≡ true
unfolding is_white whites
tab_white = refl

pub newline_white : is_white 0xa ≡ true
unfolding is_white whites
newline_white = refl

pub space_white : is_white 0x20 ≡ true
unfolding is_white whites
space_white = refl

pub no_break_space_white : is_white 0xa0 ≡ true
unfolding is_white whites
no_break_space_white = refl

pub wide_space_white : is_white 0x3000 ≡ true
unfolding is_white whites
wide_space_white = refl
