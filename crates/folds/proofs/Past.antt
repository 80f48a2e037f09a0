-- Going from visible row to visible row past whole folds, as the loops of `src/folds.rt` do.
-- Assumes nothing.
use Rattle.lists.proofs.Kit.{◌≡◌, refl, ◌∙◌, List, Bool, true, false, cond, not, ◌||◌, ℕ, zero, suc, ◌+◌, ◌-◌, ◌≤◌, ◌<◌, ◌/◌, ◌%◌, add-zero, zero-add, arith, Option, Some, None}
use Rattle.lists.proofs.Kit.{length, eqb, ltb}
use Rattle.folds.specs.Folds.{any_fold, bad_fold, fold_refusal, hidden, visible_from, prev_visible}
use Rattle.folds.specs.Cover.{cover_of}
use Rattle.folds.proofs.Hiding.{Covers, cover_covers}

pub said : (folds : List ℕ) (row : ℕ) (r : Option (ℕ × ℕ)) → r ≡ cover_of folds row → Covers folds row r
said folds row r e = rw e (cover_covers folds row)

-- in accepted folds none is bad
pub folds_good : (folds : List ℕ) (rows : ℕ) → fold_refusal folds rows ≡ 0 → any_fold (bad_fold rows) folds ≡ false
unfolding fold_refusal
folds_good folds rows e = go (not (eqb (length folds % 3) 0)) (ltb 256 (length folds / 3)) (any_fold (bad_fold rows) folds) e
  where
    go : (a b d : Bool) → ◌≡◌ {A = ℕ} (cond (a || (b || d)) 5 0) 0 → d ≡ false
    go true b d h = absurd (omega arith)
    go false true d h = absurd (omega arith)
    go false false true h = absurd (omega arith)
    go false false false h = refl

-- rows that are all hidden are passed over at once, downwards and upwards
visible_past : (folds : List ℕ) (r k n : ℕ) → ((x : ℕ) → r ≤ x → x < r + k → hidden folds x ≡ true) → visible_from folds r (k + n) ≡ visible_from folds (r + k) n
unfolding visible_from
visible_past folds r zero n h = rw (add-zero r, zero-add n)
visible_past folds r (suc k) n h =
    let one : suc k + n ≡ suc (k + n) = omega arith in
    let on : r + suc k ≡ r + 1 + k = omega arith in
    rw (one, on, h r (omega arith) (omega arith)) (visible_past folds (r + 1) k n (λ x l m. h x (omega arith) (omega arith)))

prev_past : (folds : List ℕ) (r k : ℕ) → ((x : ℕ) → r ≤ x → x < r + k → hidden folds x ≡ true) → prev_visible folds (r + k) ≡ prev_visible folds r
unfolding prev_visible
prev_past folds r zero h = rw (add-zero r)
prev_past folds r (suc k) h =
    let on : r + suc k ≡ suc (r + k) = omega arith in
    rw (on, h (r + k) (omega arith) (omega arith)) (prev_past folds r k (λ x l m. h x l (omega arith)))

-- the first row seen from r on, of `rows` rows
module _ (folds : List ℕ) (rows r : ℕ) where
  pub next_jump : (s e : ℕ) → Covers folds r (Some (s, e)) → any_fold (bad_fold rows) folds ≡ false → r < rows →
      visible_from folds r (rows - r) ≡ visible_from folds (e + 1) (rows - (e + 1))
  next_jump s e v g h =
      let inside : e < rows = v.3 rows g in
      let all : rows - r ≡ (e + 1 - r) + (rows - (e + 1)) = omega arith in
      let to : r + (e + 1 - r) ≡ e + 1 = omega arith in
      rw all (visible_past folds r (e + 1 - r) (rows - (e + 1)) (λ x l m. v.2 x (omega arith) (omega arith)) ∙ rw to)

  pub next_here : Covers folds r None → r < rows → visible_from folds r (rows - r) ≡ Some r
  unfolding visible_from
  next_here v h =
      let some : rows - r ≡ suc (rows - r - 1) = omega arith in
      rw (some, v)

  pub next_none : rows ≤ r → visible_from folds r (rows - r) ≡ None
  unfolding visible_from
  next_none h =
      let none : rows - r ≡ 0 = omega arith in
      rw none

-- the last row seen before r
module _ (folds : List ℕ) (r : ℕ) where
  pub prev_jump : (s e : ℕ) → Covers folds (r - 1) (Some (s, e)) → prev_visible folds r ≡ prev_visible folds (s + 1)
  prev_jump s e v =
      let to : s + 1 + (r - (s + 1)) ≡ r = omega arith in
      rw to at (prev_past folds (s + 1) (r - (s + 1)) (λ x l m. v.2 x (omega arith) (omega arith)))

  pub prev_none : r ≤ 0 → prev_visible folds r ≡ None
  unfolding prev_visible
  prev_none h =
      let none : r ≡ 0 = omega arith in
      rw none

pub prev_here : (folds : List ℕ) (r : ℕ) → Covers folds (r - 1) None → 0 < r → prev_visible folds r ≡ Some (r - 1)
unfolding prev_visible
prev_here folds zero v h = absurd (omega arith)
prev_here folds (suc q) v h =
    let back : suc q - 1 ≡ q = omega arith in
    rw (back, rw back at v)

-- where the row seen lies
pub visible_within : (folds : List ℕ) (r n x : ℕ) → visible_from folds r n ≡ Some x → (r ≤ x) × (x < r + n)
unfolding visible_from
visible_within folds r zero x e = let never : ◌≡◌ {A = ℕ} 0 1 = cc in absurd (omega arith)
visible_within folds r (suc n) x e = go (hidden folds r) e (λ h. visible_within folds (r + 1) n x h)
  where
    go : (b : Bool) → cond b (visible_from folds (r + 1) n) (Some r) ≡ Some x → (visible_from folds (r + 1) n ≡ Some x → (r + 1 ≤ x) × (x < r + 1 + n)) →
        (r ≤ x) × (x < r + suc n)
    go true h ih = omega (arith, ih h)
    go false h ih = let r_is : r ≡ x = cc in omega arith

pub prev_within : (folds : List ℕ) (r x : ℕ) → prev_visible folds r ≡ Some x → x < r
unfolding prev_visible
prev_within folds zero x e = let never : ◌≡◌ {A = ℕ} 0 1 = cc in absurd (omega arith)
prev_within folds (suc r) x e = go (hidden folds r) e (λ h. prev_within folds r x h)
  where
    go : (b : Bool) → cond b (prev_visible folds r) (Some r) ≡ Some x → (prev_visible folds r ≡ Some x → x < r) → x < suc r
    go true h ih = omega (arith, ih h)
    go false h ih = let r_is : r ≡ x = cc in omega arith

-- no fold hides it
pub prev_shown : (folds : List ℕ) (r x : ℕ) → prev_visible folds r ≡ Some x → hidden folds x ≡ false
unfolding prev_visible
prev_shown folds zero x e = cc
prev_shown folds (suc r) x e = go (hidden folds r) refl e (λ h. prev_shown folds r x h)
  where
    go : (b : Bool) → hidden folds r ≡ b → cond b (prev_visible folds r) (Some r) ≡ Some x → (prev_visible folds r ≡ Some x → hidden folds x ≡ false) →
        hidden folds x ≡ false
    go true q h ih = ih h
    go false q h ih = let r_is : r ≡ x = cc in rw r_is at q
