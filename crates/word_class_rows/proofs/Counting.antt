-- Rows by the classes: one place further, and the one place that ends a row. Assumes nothing.
use Rattle.lists.proofs.Kit.{◌≡◌, refl, ap, sym, ◌∙◌, List, [], ◌∷◌, Bool, true, false, cond, ℕ, zero, suc, ◌+◌, ◌-◌, ◌≤◌, ◌<◌, add-one, ℕ_discrete, arith}
use Rattle.lists.proofs.Kit.{length, leb}
use Rattle.word_places.specs.Places.{is_end}
use Rattle.word_class_rows.specs.Rows.{row_of, rows_of, end_of, start_of, Stands}

-- the row of the next place
next : (c : List ℕ) (i : ℕ) → i < length c → row_of c (suc i) ≡ cond (is_end c i) (suc (row_of c i)) (row_of c i)
unfolding row_of
next [] i h = absurd (omega arith)
next (x ∷ c) zero h = refl
next (x ∷ c) (suc i) h = go (leb 3 x) (is_end c i) (next c i (omega arith))
  where
    go : (a b : Bool) → row_of c (suc i) ≡ cond b (suc (row_of c i)) (row_of c i) →
        cond a (suc (row_of c (suc i))) (row_of c (suc i)) ≡ cond b (suc (cond a (suc (row_of c i)) (row_of c i))) (cond a (suc (row_of c i)) (row_of c i))
    go true true ih = ap suc ih
    go true false ih = ap suc ih
    go false true ih = ih
    go false false ih = ih

pub row_first : (c : List ℕ) → row_of c 0 ≡ 0
unfolding row_of
row_first [] = refl
row_first (x ∷ c) = refl

module _ (c : List ℕ) (i : ℕ) (h : i < length c) where
  pub row_end_next : is_end c i ≡ true → row_of c (i + 1) ≡ row_of c i + 1
  row_end_next e = rw (add-one i) (next c i h ∙ rw e (sym (add-one (row_of c i))))

  pub row_char_next : is_end c i ≡ false → row_of c (i + 1) ≡ row_of c i
  row_char_next e = rw (add-one i) (next c i h ∙ rw e)

-- and of the place before
module _ (c : List ℕ) (i : ℕ) (z : 0 < i) (h : i ≤ length c) where
  pub row_end_prev : is_end c (i - 1) ≡ true → row_of c i ≡ row_of c (i - 1) + 1
  row_end_prev e = let one : i - 1 + 1 ≡ i = omega arith in rw one at (row_end_next c (i - 1) (omega arith) e)

  pub row_char_prev : is_end c (i - 1) ≡ false → row_of c i ≡ row_of c (i - 1)
  row_char_prev e = let one : i - 1 + 1 ≡ i = omega arith in rw one at (row_char_next c (i - 1) (omega arith) e)

-- a place of a row is in the slice
pub row_there : (c : List ℕ) (i row : ℕ) → i ≤ length c → row_of c i ≤ row → row < rows_of c → i < length c
row_there c i row h l k = go (ℕ_discrete i (length c))
  where
    go : Dec (i ≡ length c) → i < length c
    go (yes e) = absurd (omega (arith, ap (row_of c) e))
    go (no n) = omega (arith, n)

-- the row is at most the place
pub row_below : (c : List ℕ) (i : ℕ) → i ≤ length c → row_of c i ≤ i
row_below c zero h = omega (arith, row_first c)
row_below c (suc i) h = go (is_end c i) (next c i (omega arith)) (row_below c i (omega arith))
  where
    go : (b : Bool) → row_of c (suc i) ≡ cond b (suc (row_of c i)) (row_of c i) → row_of c i ≤ i → row_of c (suc i) ≤ suc i
    go true e l = omega arith
    go false e l = omega arith

-- a row has one end
pub end_one : (c : List ℕ) (r j : ℕ) → j < length c → is_end c j ≡ true → row_of c j ≡ r → j ≡ end_of c r
unfolding row_of end_of
end_one [] r j h e q = absurd (omega arith)
end_one (x ∷ c) zero zero h e q = rw e
end_one (x ∷ c) (suc r) zero h e q = absurd (omega arith)
end_one (x ∷ c) zero (suc j) h e q = go (leb 3 x) q (λ w. end_one c zero j (omega arith) e w)
  where
    go : (b : Bool) → cond b (suc (row_of c j)) (row_of c j) ≡ 0 → (row_of c j ≡ 0 → j ≡ end_of c zero) → suc j ≡ cond b 0 (suc (end_of c zero))
    go true w ih = absurd (omega arith)
    go false w ih = ap suc (ih w)
end_one (x ∷ c) (suc r) (suc j) h e q = go (leb 3 x) q (λ s w. end_one c s j (omega arith) e w)
  where
    go : (b : Bool) → cond b (suc (row_of c j)) (row_of c j) ≡ suc r → ((s : ℕ) → row_of c j ≡ s → j ≡ end_of c s) → suc j ≡ suc (end_of c (cond b r (suc r)))
    go true w ih = ap suc (ih r (omega arith))
    go false w ih = ap suc (ih (suc r) w)

-- the place behind it is the first of the next row
pub start_one : (c : List ℕ) (r i : ℕ) → 0 < i → i ≤ length c → is_end c (i - 1) ≡ true → row_of c i ≡ r → i ≡ start_of c r
start_one c r zero z h e q = absurd (omega arith)
start_one c r (suc i) z h e q =
    let one : suc i - 1 ≡ i = omega arith in
    let is_end_lem : is_end c i ≡ true = rw one at e in
    let by_row_end_next = row_end_next c i (omega arith) is_end_lem in
    by r (sym q ∙ rw (add-one i) at by_row_end_next)
  where
    by : (s : ℕ) → s ≡ row_of c i + 1 → suc i ≡ start_of c s
    by zero v = absurd (omega arith)
    by (suc s) v = let one : suc i - 1 ≡ i = omega arith in omega (arith, end_one c s i (omega arith) (rw one at e) (omega arith))

pub start_first : (c : List ℕ) (r i : ℕ) → i ≡ 0 → row_of c i ≡ r → i ≡ start_of c r
start_first c r i e q = let r_is : r ≡ 0 = sym q ∙ rw e (row_first c) in rw (r_is, e)

-- an end place of every row
pub end_there : (c : List ℕ) (r : ℕ) → r < rows_of c → (end_of c r < length c) × (is_end c (end_of c r) ≡ true) × (row_of c (end_of c r) ≡ r)
unfolding row_of end_of
end_there [] r h = absurd (omega arith)
end_there (x ∷ c) zero h = go (leb 3 x) refl (λ l. end_there c zero l)
  where
    go : (b : Bool) → leb 3 x ≡ b → (0 < rows_of c → (end_of c 0 < length c) × (is_end c (end_of c 0) ≡ true) × (row_of c (end_of c 0) ≡ 0)) →
        (cond b 0 (suc (end_of c zero)) < suc (length c)) × (is_end (x ∷ c) (cond b 0 (suc (end_of c zero))) ≡ true) ×
        (row_of (x ∷ c) (cond b 0 (suc (end_of c zero))) ≡ 0)
    go true k ih = (omega arith, k, refl)
    go false k ih = let rows_some : 0 < rows_of c = rw k at h in let by_ih = ih rows_some in (omega (arith, by_ih.0), by_ih.1, rw k by_ih.2)
end_there (x ∷ c) (suc r) h = go (leb 3 x) refl (λ s l. end_there c s l)
  where
    go : (b : Bool) → leb 3 x ≡ b → ((s : ℕ) → s < rows_of c → (end_of c s < length c) × (is_end c (end_of c s) ≡ true) × (row_of c (end_of c s) ≡ s)) →
        (suc (end_of c (cond b r (suc r))) < suc (length c)) × (is_end c (end_of c (cond b r (suc r))) ≡ true) ×
        (row_of (x ∷ c) (suc (end_of c (cond b r (suc r)))) ≡ suc r)
    go true k ih =
        let one_more_below : suc r < suc (rows_of c) = rw k at h in
        let by_ih = ih r (omega arith) in (omega (arith, by_ih.0), by_ih.1, rw k (ap suc by_ih.2))
    go false k ih =
        let one_more_below : suc r < rows_of c = rw k at h in
        let by_ih = ih (suc r) one_more_below in (omega (arith, by_ih.0), by_ih.1, rw k by_ih.2)

-- the first place of a row after the first is behind the end of the row before
pub start_next : (c : List ℕ) (r : ℕ) → 0 < r → end_of c (r - 1) + 1 ≡ start_of c r
start_next c zero h = absurd (omega arith)
start_next c (suc r) h = let one : suc r - 1 ≡ r = omega arith in rw one

-- and it is in its row
start_row : (c : List ℕ) (r : ℕ) → r < rows_of c → (start_of c r ≤ length c) × (r ≡ row_of c (start_of c r))
start_row c zero h = (omega arith, sym (row_first c))
start_row c (suc r) h =
    let by_end_there = end_there c r (omega arith) in
    (omega (arith, by_end_there.0), omega (arith, row_end_next c (end_of c r) by_end_there.0 by_end_there.1, by_end_there.2))

pub start_stands : (c : List ℕ) (r i : ℕ) → i ≡ start_of c r → r < rows_of c → Stands c (record { row = r; at = i })
start_stands c r i e h = let by_start_row =
    start_row c r h in record { within = omega (arith, by_start_row.0, e); row_is = by_start_row.1 ∙ ap (row_of c) (sym e) }
