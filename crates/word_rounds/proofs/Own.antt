-- The closed fold at a row is the one at its own first row and last row. Assumes nothing.
use Rattle.lists.proofs.Kit.{◌≡◌, refl, ap, sym, ◌∙◌, List, Bool, true, false, cond, ℕ, zero, suc, ◌+◌, ◌-◌, ◌≤◌, ◌<◌, add-zero, add-one, ℕ_discrete, arith, Option, Some, None}
use Rattle.folds.proofs.Spans.{same_first, same_last}
use Rattle.folds.specs.Folds.{any_fold, bad_fold, hidden, visible_from, prev_visible, next_visible, last_before, closed_from, closed_fold_at}
use Rattle.folds.specs.Cover.{cover_of}
use Rattle.folds.proofs.Hiding.{Covers, cover_covers}
use Rattle.folds.proofs.Past.{visible_within, prev_shown}

-- a hidden row is a row of the text
hidden_within : (folds : List ℕ) (rows x : ℕ) → any_fold (bad_fold rows) folds ≡ false → hidden folds x ≡ true → x < rows
hidden_within folds rows x g h = go (cover_of folds x) (cover_covers folds x)
  where
    go : (r : Option (ℕ × ℕ)) → Covers folds x r → x < rows
    go (Some (s, e)) v = omega (arith, v.1, v.3 rows g)
    go None v = let never : ◌≡◌ {A = ℕ} 0 1 = cc in absurd (omega arith)

-- it is the row itself, where all between are hidden
prev_over : (folds : List ℕ) (a k : ℕ) → hidden folds a ≡ false → ((x : ℕ) → a < x → x < a + 1 + k → hidden folds x ≡ true) →
    prev_visible folds (a + 1 + k) ≡ Some a
unfolding prev_visible
prev_over folds a zero s h = rw (add-zero (a + 1), add-one a, s)
prev_over folds a (suc k) s h =
    let on : a + 1 + suc k ≡ suc (a + 1 + k) = omega arith in
    rw (on, h (a + 1 + k) (omega arith) (omega arith)) (prev_over folds a k s (λ x l m. h x l (omega arith)))

-- the rows before the next one seen are hidden, all of them where none is seen
abbrev up_to : Option ℕ → ℕ → ℕ
up_to (Some x) n = x
up_to None n = n

next_over : (folds : List ℕ) (r n y : ℕ) → r ≤ y → y < up_to (visible_from folds r n) (r + n) → hidden folds y ≡ true
unfolding visible_from
next_over folds r zero y l h = absurd (omega arith)
next_over folds r (suc n) y l h = go (hidden folds r) refl h (λ p q. next_over folds (r + 1) n y p q)
  where
    on : r + suc n ≡ r + 1 + n
    on = omega arith

    go : (b : Bool) → hidden folds r ≡ b → y < up_to (cond b (visible_from folds (r + 1) n) (Some r)) (r + suc n) →
        (r + 1 ≤ y → y < up_to (visible_from folds (r + 1) n) (r + 1 + n) → hidden folds y ≡ true) → hidden folds y ≡ true
    go true q m ih = pick (ℕ_discrete r y)
      where
        pick : Dec (r ≡ y) → hidden folds y ≡ true
        pick (yes e) = rw e at q
        pick (no e) = ih (omega arith) (rw on at m)
    go false q m ih = absurd (omega arith)

module _ (folds : List ℕ) (rows content : ℕ) (good : any_fold (bad_fold rows) folds ≡ false) (near : rows ≤ content + 1) (most : content ≤ rows) (a b : ℕ) where
  -- it is the fold at its own rows
  abbrev Own : Type 0
  Own = (closed_fold_at folds rows content a ≡ Some (a, b)) × (closed_fold_at folds rows content b ≡ Some (a, b))

  -- a fold by its first row, which is seen: the rows after that one up to its last are hidden
  module _ (s : hidden folds a ≡ false) (h : hidden folds (a + 1) ≡ true) (e : last_before content (next_visible folds rows a) ≡ b) where
    inner : a + 1 < rows
    inner = hidden_within folds rows (a + 1) good h

    rest : (a ≤ b) × ((y : ℕ) → a < y → y ≤ b → hidden folds y ≡ true)
    rest = go (next_visible folds rows a) refl e
      where
        all : a + 1 + (rows - (a + 1)) ≡ rows
        all = omega (arith, inner)

        go : (v : Option ℕ) → next_visible folds rows a ≡ v → last_before content v ≡ b → (a ≤ b) × ((y : ℕ) → a < y → y ≤ b → hidden folds y ≡ true)
        go (Some x) q w =
            let by_visible_within = visible_within folds (a + 1) (rows - (a + 1)) x q in
            (omega (arith, by_visible_within), λ y l m. next_over folds (a + 1) (rows - (a + 1)) y (omega arith) (rw q (omega (arith, by_visible_within))))
        go None q w =
            let by_inner = inner in
            (omega (arith, by_inner), λ y l m. next_over folds (a + 1) (rows - (a + 1)) y (omega arith) (rw (q, all) (omega (arith, by_inner))))

    own_first : closed_fold_at folds rows content a ≡ Some (a, b)
    own_first = rw (s, h, e)

    own_last : closed_fold_at folds rows content b ≡ Some (a, b)
    own_last = pick (ℕ_discrete a b)
      where
        to : (a < b) → a + 1 + (b - (a + 1)) ≡ b
        to l = omega arith

        pick : Dec (a ≡ b) → closed_fold_at folds rows content b ≡ Some (a, b)
        pick (yes q) = ap (closed_fold_at folds rows content) (sym q) ∙ own_first
        pick (no q) =
            let a_below : a < b = omega (arith, rest.0) in
            let prev_visible_is : prev_visible folds b ≡ Some a = rw (to a_below) at (prev_over folds a (b - (a + 1)) s (λ x i j. rest.1 x i (omega arith))) in
            rw (rest.1 b a_below (omega arith), prev_visible_is, h, e)

  pub span_own : (row : ℕ) → closed_fold_at folds rows content row ≡ Some (a, b) → Own
  span_own row w = go (hidden folds row) refl w
    where
      pick : (f : ℕ) (d : Bool) → hidden folds f ≡ false → hidden folds (f + 1) ≡ d →
          cond {A = Option (ℕ × ℕ)} d (Some (f, last_before content (next_visible folds rows f))) None ≡ Some (a, b) → Own
      pick f true s h e =
          let f_is : f ≡ a = same_first e in
          let last_before_is : last_before content (next_visible folds rows f) ≡ b = same_last e in
          (own_first (rw f_is at s) (rw f_is at h) (rw f_is at last_before_is), own_last (rw f_is at s) (rw f_is at h) (rw f_is at last_before_is))
      pick f false s h e = let never : ◌≡◌ {A = ℕ} 0 1 = cc in absurd (omega arith)

      from : (v : Option ℕ) → ((x : ℕ) → v ≡ Some x → hidden folds x ≡ false) → closed_from folds rows content v ≡ Some (a, b) → Own
      from (Some f) s e = pick f (hidden folds (f + 1)) (s f refl) refl e
      from None s e = let never : ◌≡◌ {A = ℕ} 0 1 = cc in absurd (omega arith)

      go : (d : Bool) → hidden folds row ≡ d → closed_from folds rows content (cond d (prev_visible folds row) (Some row)) ≡ Some (a, b) → Own
      go true d e = from (prev_visible folds row) (λ x v. prev_shown folds row x v) e
      go false d e = from (Some row) (λ x v. let row_is : row ≡ x = cc in rw row_is at d) e
