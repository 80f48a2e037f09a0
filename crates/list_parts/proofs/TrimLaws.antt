-- Laws of trimming: white space left out from the start on, and from the end back. Assumes nothing.
use Rattle.lists.proofs.Kit.{◌≡◌, refl, ap, sym, ◌∙◌, List, [], ◌∷◌, ◌++◌, true, false, ℕ, zero, suc, ◌+◌, ◌-◌, ◌≤◌, ◌<◌, arith, length, get_or, take, drop}
use Rattle.lists.proofs.Kit.{drop_of_length-le, length-drop, take_all, take-suc}
use Rattle.chars.specs.White.{is_white}
use Rattle.list_parts.specs.Parts.{trim_start, keep_last, trim_end, trim, Trimmed, Begun, Ended}
use Rattle.lists.proofs.Lists.{drop_at_of as drop_at}

-- a walk in from one end of a part, start or end: it has left out white space alone, up to i
pub record Trims (trims : List ℕ → List ℕ) (left : ℕ → List ℕ) (p : List ℕ) (i : ℕ) : Type 0 where
  pub inside : i ≤ length p
  pub same : trims p ≡ trims (left i)

module _ {trims : List ℕ → List ℕ} {left : ℕ → List ℕ} {p : List ℕ} {i : ℕ} (so_far : Trims trims left p i) where
  pub trims_on : {j : ℕ} → j ≤ length p → trims (left i) ≡ trims (left j) → Trims trims left p j
  trims_on h e = record { inside = h; same = so_far.same ∙ e }

  pub trims_stop : trims (left i) ≡ left i → Trimmed trims left p i
  trims_stop e = record { inside = so_far.inside; is = so_far.same ∙ e }

module _ (p : List ℕ) (i : ℕ) where
  pub trim_start_on : i < length p → is_white (get_or p i 0) ≡ true → trim_start (drop i p) ≡ trim_start (drop (i + 1) p)
  unfolding trim_start
  trim_start_on h e = rw (drop_at p i 0 h, e)

  pub trim_start_stop : i < length p → is_white (get_or p i 0) ≡ false → trim_start (drop i p) ≡ drop i p
  unfolding trim_start
  trim_start_stop h e = rw (drop_at p i 0 h, e)

  pub trim_start_end : length p ≤ i → trim_start (drop i p) ≡ drop i p
  unfolding trim_start
  trim_start_end h = rw (drop_of_length-le p h)

snoc_white : (p : List ℕ) (x : ℕ) → is_white x ≡ true → trim_end (p ++ (x ∷ [])) ≡ trim_end p
unfolding trim_end
snoc_white [] x e = rw e
snoc_white (y ∷ p) x e = ap (keep_last y) (snoc_white p x e)

keep_some : (y : ℕ) (p : List ℕ) (x : ℕ) → keep_last y (p ++ (x ∷ [])) ≡ y ∷ (p ++ (x ∷ []))
keep_some y [] x = refl
keep_some y (z ∷ p) x = refl

snoc_other : (p : List ℕ) (x : ℕ) → is_white x ≡ false → trim_end (p ++ (x ∷ [])) ≡ p ++ (x ∷ [])
unfolding trim_end
snoc_other [] x e = rw e
snoc_other (y ∷ p) x e = ap (keep_last y) (snoc_other p x e) ∙ keep_some y p x

take_last : (p : List ℕ) (e : ℕ) → 0 < e → e ≤ length p → take e p ≡ take (e - 1) p ++ (get_or p (e - 1) 0 ∷ [])
take_last p e h k = let e_is : e ≡ suc (e - 1) = omega arith in ap (λ (n : ℕ). take n p) e_is ∙ take-suc p (e - 1) 0 (omega arith)

module _ (p : List ℕ) (e : ℕ) (h : 0 < e) (k : e ≤ length p) where
  pub trim_end_on : is_white (get_or p (e - 1) 0) ≡ true → trim_end (take e p) ≡ trim_end (take (e - 1) p)
  trim_end_on w = ap trim_end (take_last p e h k) ∙ snoc_white (take (e - 1) p) (get_or p (e - 1) 0) w

  pub trim_end_stop : is_white (get_or p (e - 1) 0) ≡ false → trim_end (take e p) ≡ take e p
  trim_end_stop w = ap trim_end (take_last p e h k) ∙ snoc_other (take (e - 1) p) (get_or p (e - 1) 0) w ∙ sym (take_last p e h k)

pub trim_end_end : (p : List ℕ) (e : ℕ) → e ≤ 0 → trim_end (take e p) ≡ take e p
unfolding trim_end
trim_end_end p zero h = refl
trim_end_end p (suc e) h = absurd (omega arith)

pub trim_is : (p : List ℕ) (i e : ℕ) → Begun p i → Ended (take (length p - i) (drop i p)) e → take e (take (length p - i) (drop i p)) ≡ trim p
trim_is p i e b t =
    let front_is : take (length p - i) (drop i p) ≡ drop i p = take_all (length p - i) (drop i p) (omega (arith, length-drop i p)) in
    sym t.is ∙ ap trim_end (front_is ∙ sym b.is)
