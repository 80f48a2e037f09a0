-- Laws of the check of a text: what its two passes find, and what an accepted text is.
-- Assumes nothing.
use Rattle.lists.proofs.Kit.{◌≡◌, refl, List, [], ◌∷◌, Bool, true, false, cond, ◌&&◌, ◌||◌, ℕ, ◌≤◌, arith, length, ltb, leb, eqb, ltb-false, leb-false, le-leb}
use Rattle.lists.proofs.Kit.{le-ltb, lt-ltb, ne_eqb}
use Rattle.lists.specs.Lists.{any}
use Rattle.chars.specs.Scalar.{not_scalar}
use Rattle.text_check.specs.Accept.{is_break, is_low, is_separator, is_high, high_refusal, text_refusal}

-- what two flags have found, each by its own test
pub each_its_own : (l h u v : Bool) → ((l || h) || (u || v)) ≡ ((l || u) || (h || v))
each_its_own true h u v = refl
each_its_own false true true v = refl
each_its_own false true false v = refl
each_its_own false false u v = refl

-- a break is a low one or a separator
five : (a b s l p : Bool) → ((a || (b || s)) || (l || p)) ≡ (((a || b) || l) || (s || p))
five true b s l p = refl
five false true s l p = refl
five false false true true p = refl
five false false true false p = refl
five false false false l p = refl

breaks : (t : List ℕ) → any is_break t ≡ (any is_low t || any is_separator t)
unfolding any
breaks [] = refl
breaks (x ∷ t) = rw (breaks t) (five (leb 0xb x && leb x 0xd) (eqb x 0x85) (is_separator x) (any is_low t) (any is_separator t))

-- where nothing is high, nothing is found that is only among the high
none : (p : ℕ → Bool) → ((x : ℕ) → is_high x ≡ false → p x ≡ false) → (t : List ℕ) → any is_high t ≡ false → any p t ≡ false
unfolding any
none p only [] e = refl
none p only (x ∷ t) e = go (is_high x) (any is_high t) (p x) (any p t) e (only x) (none p only t)
  where
    go : (h k a b : Bool) → (h || k) ≡ false → (h ≡ false → a ≡ false) → (k ≡ false → b ≡ false) → (a || b) ≡ false
    go true k true b e f g = e
    go true k false true e f g = e
    go true k false false e f g = refl
    go false k true b e f g = f refl
    go false k false b e f g = g e

scalar_below : (x : ℕ) → is_high x ≡ false → not_scalar x ≡ false
scalar_below x e =
    let below = leb-false 0x2028 x e in
    rw (le-leb x 0x10ffff (omega (arith, below)), lt-ltb x 0xd800 (omega (arith, below)))

no_separator_below : (x : ℕ) → is_high x ≡ false → is_separator x ≡ false
no_separator_below x e =
    let below = leb-false 0x2028 x e in
    rw (ne_eqb x 0x2028 (λ q. omega (arith, below, q)), ne_eqb x 0x2029 (λ q. omega (arith, below, q)))

-- what a pass over the high clears, where it is left out for a text without any
pub high_clear : (t : List ℕ) (high : Bool) → (high ≡ false → any is_high t ≡ false) → cond high (high_refusal t) 0 ≡ 0 →
    (any not_scalar t ≡ false) × (any is_separator t ≡ false)
unfolding high_refusal
high_clear t false low e = (none not_scalar scalar_below t (low refl), none is_separator no_separator_below t (low refl))
high_clear t true low e = go (any not_scalar t) (any is_separator t) e
  where
    go : (w s : Bool) → ◌≡◌ {A = ℕ} (cond w 2 (cond s 3 0)) 0 → (w ≡ false) × (s ≡ false)
    go true s e = absurd (omega arith)
    go false true e = absurd (omega arith)
    go false false e = (refl, refl)

-- the check of an accepted length by its two passes
pub by_passes : (t : List ℕ) → length t ≤ 1048576 → (f : ℕ) → f ≡ cond (any is_high t) (high_refusal t) 0 →
    text_refusal t ≡ cond (eqb f 0) (cond (any is_low t) 3 0) f
unfolding text_refusal high_refusal
by_passes t h f e = rw (le-ltb 1048576 (length t) h, breaks t, e)
    (go (any is_high t) (any not_scalar t) (any is_low t) (any is_separator t) (none not_scalar scalar_below t) (none is_separator no_separator_below t))
  where
    go : (h w l s : Bool) → (h ≡ false → w ≡ false) → (h ≡ false → s ≡ false) →
        ◌≡◌ {A = ℕ} (cond w 2 (cond (l || s) 3 0)) (cond (eqb (cond h (cond w 2 (cond s 3 0)) 0) 0) (cond l 3 0) (cond h (cond w 2 (cond s 3 0)) 0))
    go true true l s f g = refl
    go true false true true f g = refl
    go true false true false f g = refl
    go true false false true f g = refl
    go true false false false f g = refl
    go false w l s f g = rw (f refl, g refl) (last l)
      where
        last : (l : Bool) → ◌≡◌ {A = ℕ} (cond (l || false) 3 0) (cond l 3 0)
        last true = refl
        last false = refl

-- an accepted text is short, and all its values are scalar values
pub accepted_short : (t : List ℕ) → text_refusal t ≡ 0 → length t ≤ 1048576
unfolding text_refusal
accepted_short t e = go (ltb 1048576 (length t)) refl e
  where
    go : (b : Bool) → ltb 1048576 (length t) ≡ b → ◌≡◌ {A = ℕ} (cond b 1 (cond (any not_scalar t) 2 (cond (any is_break t) 3 0))) 0 → length t ≤ 1048576
    go true p q = absurd (omega arith)
    go false p q = ltb-false _ _ p

pub all_scalar : (t : List ℕ) → text_refusal t ≡ 0 → any not_scalar t ≡ false
unfolding text_refusal
all_scalar t e = go (ltb 1048576 (length t)) (any not_scalar t) (any is_break t) e
  where
    go : (a b d : Bool) → ◌≡◌ {A = ℕ} (cond a 1 (cond b 2 (cond d 3 0))) 0 → b ≡ false
    go true b d h = absurd (omega arith)
    go false true d h = absurd (omega arith)
    go false false d h = refl

-- and what is short, and has none of what is refused, is accepted
pub accepted_clear : (t : List ℕ) → length t ≤ 1048576 → any not_scalar t ≡ false → any is_separator t ≡ false → any is_low t ≡ false → text_refusal t ≡ 0
unfolding text_refusal
accepted_clear t h scalars separators low = rw (le-ltb 1048576 (length t) h, breaks t, scalars, low, separators)
