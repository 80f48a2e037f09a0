-- The row map of an edit keeps order, takes the rows to so many as there are then, and is taken back, with the folds. Assumes nothing.
use Rattle.lists.proofs.Kit.{◌≡◌, refl, sym, ap, ◌∙◌, List, [], ◌∷◌, false, not, ◌&&◌, ◌⊎◌, inl, inr, ℕ, ◌+◌, ◌-◌, ◌*◌, ◌/◌, ◌≤◌, ◌<◌, dec_lt, ℕ_discrete, arith}
use Rattle.lists.proofs.Kit.{length, eqb, eq-eqb, ne_eqb, lt-leb, le-leb}
use Rattle.edit_folds.specs.Folds.{mapped_row, is_lost, kept_folds}

-- the row map keeps order, and takes the rows to so many as there are then
module _ (r1 r2 k : ℕ) (order : r1 ≤ r2) where
  map_low : (x : ℕ) → x ≤ r1 → mapped_row r1 r2 k x ≡ x
  unfolding mapped_row
  map_low x h = rw (le-leb x r1 h)

  map_mid : (x : ℕ) → r1 < x → x ≤ r2 → mapped_row r1 r2 k x ≡ r1
  unfolding mapped_row
  map_mid x h l = rw (lt-leb x r1 h, le-leb x r2 l)

  map_high : (x : ℕ) → r2 < x → mapped_row r1 r2 k x ≡ x - (r2 - r1) + k
  unfolding mapped_row
  map_high x h = rw (lt-leb x r1 (omega arith), lt-leb x r2 h)

  -- a row and its image, in numbers
  map_is : (x : ℕ) → ((x ≤ r1) × (mapped_row r1 r2 k x ≡ x)) ⊎ (((r1 < x) × (x ≤ r2) × (mapped_row r1 r2 k x ≡ r1)) ⊎
      ((r2 < x) × (mapped_row r1 r2 k x ≡ x - (r2 - r1) + k)))
  map_is x = go (dec_lt r1 x) (dec_lt r2 x)
    where
      go : Dec (r1 < x) → Dec (r2 < x) → ((x ≤ r1) × (mapped_row r1 r2 k x ≡ x)) ⊎ (((r1 < x) × (x ≤ r2) × (mapped_row r1 r2 k x ≡ r1)) ⊎
          ((r2 < x) × (mapped_row r1 r2 k x ≡ x - (r2 - r1) + k)))
      go (no h) d = inl (omega arith, map_low x (omega arith))
      go (yes h) (no l) = inr (inl (h, omega arith, map_mid x h (omega arith)))
      go (yes h) (yes l) = inr (inr (l, map_high x l))

  pub map_up : (x y : ℕ) → x ≤ y → mapped_row r1 r2 k x ≤ mapped_row r1 r2 k y
  map_up x y h = go (map_is x) (map_is y)
    where
      go : ((x ≤ r1) × (mapped_row r1 r2 k x ≡ x)) ⊎ (((r1 < x) × (x ≤ r2) × (mapped_row r1 r2 k x ≡ r1)) ⊎
          ((r2 < x) × (mapped_row r1 r2 k x ≡ x - (r2 - r1) + k))) →
          ((y ≤ r1) × (mapped_row r1 r2 k y ≡ y)) ⊎ (((r1 < y) × (y ≤ r2) × (mapped_row r1 r2 k y ≡ r1)) ⊎
          ((r2 < y) × (mapped_row r1 r2 k y ≡ y - (r2 - r1) + k))) → mapped_row r1 r2 k x ≤ mapped_row r1 r2 k y
      go (inl a) (inl b) = omega (arith, a.1, b.1)
      go (inl a) (inr (inl b)) = omega (arith, a.0, a.1, b.2)
      go (inl a) (inr (inr b)) = omega (arith, a.0, a.1, b.0, b.1)
      go (inr (inl a)) (inl b) = absurd (omega (arith, a.0, b.0))
      go (inr (inl a)) (inr (inl b)) = omega (arith, a.2, b.2)
      go (inr (inl a)) (inr (inr b)) = omega (arith, a.2, b.0, b.1)
      go (inr (inr a)) (inl b) = absurd (omega (arith, a.0, b.0))
      go (inr (inr a)) (inr (inl b)) = absurd (omega (arith, a.0, b.1))
      go (inr (inr a)) (inr (inr b)) = omega (arith, a.1, b.1)

  pub map_inside : (rows rows' : ℕ) → r2 < rows → rows' ≡ rows - (r2 - r1) + k → (x : ℕ) → x < rows → mapped_row r1 r2 k x < rows'
  map_inside rows rows' l e x h = go (map_is x)
    where
      go : ((x ≤ r1) × (mapped_row r1 r2 k x ≡ x)) ⊎ (((r1 < x) × (x ≤ r2) × (mapped_row r1 r2 k x ≡ r1)) ⊎
          ((r2 < x) × (mapped_row r1 r2 k x ≡ x - (r2 - r1) + k))) → mapped_row r1 r2 k x < rows'
      go (inl a) = omega (arith, a.0, a.1)
      go (inr (inl a)) = omega (arith, a.2)
      go (inr (inr a)) = omega (arith, a.0, a.1)

-- what rows map to and back: an insert's rows, and then those of its delete
module _ (r k : ℕ) where
  there_back : (x : ℕ) → mapped_row r (r + k) 0 (mapped_row r r k x) ≡ x
  there_back x = go (dec_lt r x)
    where
      go : Dec (r < x) → mapped_row r (r + k) 0 (mapped_row r r k x) ≡ x
      go (no h) = rw (map_low r r k (omega arith) x (omega arith)) (map_low r (r + k) 0 (omega arith) x (omega arith))
      go (yes h) =
          let mapped_row_is : mapped_row r r k x ≡ x + k = map_high r r k (omega arith) x h ∙ omega arith in
          rw mapped_row_is (map_high r (r + k) 0 (omega arith) (x + k) (omega arith) ∙ omega arith)

  -- no fold is lost on either way
  kept_there : (s e : ℕ) → is_lost s e (mapped_row r r k s) (mapped_row r r k e) ≡ false
  unfolding is_lost
  kept_there s e = go (ℕ_discrete s e) (ℕ_discrete (mapped_row r r k s) (mapped_row r r k e))
    where
      go : Dec (s ≡ e) → Dec (mapped_row r r k s ≡ mapped_row r r k e) → (not (eqb s e) && eqb (mapped_row r r k s) (mapped_row r r k e)) ≡ false
      go (yes y) d = rw (eq-eqb s e y)
      go (no n) (yes y) = absurd (n (sym (there_back s) ∙ ap (mapped_row r (r + k) 0) y ∙ there_back e))
      go (no n) (no m) = rw (ne_eqb s e n, ne_eqb _ _ m)

  kept_back : (s e : ℕ) → is_lost (mapped_row r r k s) (mapped_row r r k e) s e ≡ false
  unfolding is_lost
  kept_back s e = go (ℕ_discrete s e) (ℕ_discrete (mapped_row r r k s) (mapped_row r r k e))
    where
      go : Dec (s ≡ e) → Dec (mapped_row r r k s ≡ mapped_row r r k e) → (not (eqb (mapped_row r r k s) (mapped_row r r k e)) && eqb s e) ≡ false
      go d (yes y) = rw (eq-eqb _ _ y)
      go (yes y) (no m) = absurd (m (ap (mapped_row r r k) y))
      go (no n) (no m) = rw (ne_eqb _ _ m, ne_eqb s e n)

  pub folds_taken_back : (l : List ℕ) → length l ≡ 3 * (length l / 3) → kept_folds (mapped_row r (r + k) 0) (kept_folds (mapped_row r r k) l) ≡ l
  unfolding kept_folds
  folds_taken_back [] h = refl
  folds_taken_back (s ∷ []) h = absurd (omega arith)
  folds_taken_back (s ∷ e ∷ []) h = absurd (omega arith)
  folds_taken_back (s ∷ e ∷ closed ∷ folds) h = rw (kept_there s e, there_back s, there_back e, kept_back s e, folds_taken_back folds (omega arith))
