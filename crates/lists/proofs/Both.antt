-- Two tests that hold together hold each. Assumes nothing.
use Rattle.lists.proofs.Kit.{◌≡◌, refl, sym, Bool, true, false, ◌&&◌, true≢false}

pub both : (a b : Bool) → (a && b) ≡ true → (a ≡ true) × (b ≡ true)
both true b e = (refl, e)
both false b e = absurd (true≢false (sym e))
