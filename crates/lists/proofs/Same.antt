-- Laws of `is_same`: of a loop that goes through both lists in step, and that lists which are the same are equal. Assumes nothing.
use Rattle.lists.proofs.Kit.{◌≡◌, refl, ap, sym, List, [], ◌∷◌, Bool, true, false, ◌&&◌, ℕ, ◌+◌, ◌≤◌, ◌<◌, length, get_or, drop, drop_of_length-le, eqb}
use Rattle.lists.proofs.Kit.{eq-eqb, ne_eqb, eqb-true}
use Rattle.lists.specs.Lists.{is_same}
use Rattle.lists.proofs.Lists.{drop_at}

-- at an index of both
module _ (a b : List ℕ) (i : ℕ) (ha : i < length a) (hb : i < length b) where
  pub same_on : get_or a i 0 ≡ get_or b i 0 → is_same (drop i a) (drop i b) ≡ is_same (drop (i + 1) a) (drop (i + 1) b)
  unfolding is_same
  same_on e = rw (drop_at a i ha, drop_at b i hb, eq-eqb (get_or a i 0) (get_or b i 0) e)

  pub same_stop : (get_or a i 0 ≡ get_or b i 0 → ⊥) → is_same (drop i a) (drop i b) ≡ false
  unfolding is_same
  same_stop n = rw (drop_at a i ha, drop_at b i hb, ne_eqb (get_or a i 0) (get_or b i 0) n)

pub same_end : (a b : List ℕ) (i : ℕ) → length a ≤ i → length b ≤ i → is_same (drop i a) (drop i b) ≡ true
unfolding is_same
same_end a b i ha hb = rw (drop_of_length-le a {i = i} ha, drop_of_length-le b {i = i} hb)

pub same_refl : (a : List ℕ) → is_same a a ≡ true
unfolding is_same
same_refl [] = refl
same_refl (x ∷ a) = rw (eq-eqb x x refl, same_refl a)

pub same_true : (a b : List ℕ) → is_same a b ≡ true → a ≡ b
unfolding is_same
same_true [] [] e = refl
same_true [] (y ∷ b) e = let never : ◌≡◌ {A = Bool} true false = sym e in cc
same_true (x ∷ a) [] e = let never : ◌≡◌ {A = Bool} true false = sym e in cc
same_true (x ∷ a) (y ∷ b) e = go (eqb x y) refl e (same_true a b)
  where
    go : (t : Bool) → eqb x y ≡ t → (t && is_same a b) ≡ true → (is_same a b ≡ true → a ≡ b) → x ∷ a ≡ y ∷ b
    go true p q ih = rw (eqb-true x y p, ih q)
    go false p q ih = let never : ◌≡◌ {A = Bool} true false = sym q in cc

pub same_long : (a b : List ℕ) → (length a ≡ length b → ⊥) → is_same a b ≡ false
same_long a b h = go (is_same a b) refl
  where
    go : (t : Bool) → is_same a b ≡ t → is_same a b ≡ false
    go true p = absurd (h (ap length (same_true a b p)))
    go false p = p
