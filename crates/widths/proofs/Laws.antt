-- What holds of the width under both settings: wide is never less, and the same of a character that is not of the class. Assumes nothing.
use Rattle.lists.proofs.Kit.{◌≡◌, refl, Bool, true, false, cond, ◌&&◌, ℕ, ◌≤◌, arith, eqb, eqb-true}
use Rattle.chars.specs.Width.{width_of}
use Rattle.widths.specs.declared.Ambiguous.TheVariants.{Narrow, Wide}
use Rattle.widths.specs.Widths.{is_ambiguous, wide_width, width_as}

-- cell for cell
pub wide_least : (x : ℕ) → width_as Narrow x ≤ width_as Wide x
unfolding width_as wide_width
wide_least x = go (is_ambiguous x) (eqb (width_of x) 1) refl
  where
    go : (a b : Bool) → eqb (width_of x) 1 ≡ b → width_of x ≤ cond (a && b) 2 (width_of x)
    go true true e = omega (arith, eqb-true (width_of x) 1 e)
    go true false e = omega arith
    go false b e = omega arith

pub wide_same : (x : ℕ) → is_ambiguous x ≡ false → width_as Narrow x ≡ width_as Wide x
unfolding width_as wide_width
wide_same x e = rw e
