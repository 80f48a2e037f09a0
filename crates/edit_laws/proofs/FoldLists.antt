-- Folds after an edit: as many numbers as three for each, and accepted over the new rows. Assumes nothing.
use Rattle.lists.proofs.Kit.{◌≡◌, refl, List, [], ◌∷◌, Bool, true, false, cond, not, ◌||◌, ℕ, ◌*◌, ◌/◌, ◌%◌, ◌≤◌, ◌<◌, arith, length, eqb, ltb, eq-eqb}
use Rattle.lists.proofs.Kit.{eqb-true, ltb-false, le-ltb, lt-leb}
use Rattle.folds.specs.Folds.{any_fold, bad_fold, fold_refusal}
use Rattle.edit_folds.specs.Folds.{is_lost, kept_folds}
use Rattle.edits.proofs.Small.{neither, good_fold}

pub kept_three : (f : ℕ → ℕ) (l : List ℕ) → length (kept_folds f l) ≡ 3 * (length (kept_folds f l) / 3)
unfolding kept_folds
kept_three f [] = omega arith
kept_three f (s ∷ []) = omega arith
kept_three f (s ∷ e ∷ []) = omega arith
kept_three f (s ∷ e ∷ closed ∷ folds) = go (is_lost s e (f s) (f e)) (kept_three f folds)
  where
    go : (b : Bool) → length (kept_folds f folds) ≡ 3 * (length (kept_folds f folds) / 3) →
        length (cond b (kept_folds f folds) (f s ∷ f e ∷ closed ∷ kept_folds f folds)) ≡
        3 * (length (cond b (kept_folds f folds) (f s ∷ f e ∷ closed ∷ kept_folds f folds)) / 3)
    go true h = h
    go false h = omega arith

pub kept_most : (f : ℕ → ℕ) (l : List ℕ) → length (kept_folds f l) ≤ length l
unfolding kept_folds
kept_most f [] = omega arith
kept_most f (s ∷ []) = omega arith
kept_most f (s ∷ e ∷ []) = omega arith
kept_most f (s ∷ e ∷ closed ∷ folds) = go (is_lost s e (f s) (f e)) (kept_most f folds)
  where
    go : (b : Bool) → length (kept_folds f folds) ≤ length folds →
        length (cond b (kept_folds f folds) (f s ∷ f e ∷ closed ∷ kept_folds f folds)) ≤ length (s ∷ e ∷ closed ∷ folds)
    go true h = omega arith
    go false h = omega arith

-- folds that are accepted are 256 at most
pub folds_few : (folds : List ℕ) (rows : ℕ) → fold_refusal folds rows ≡ 0 → (length folds ≡ 3 * (length folds / 3)) × (length folds / 3 ≤ 256)
unfolding fold_refusal
folds_few folds rows z = go (eqb (length folds % 3) 0) (ltb 256 (length folds / 3)) (any_fold (bad_fold rows) folds) refl refl z
  where
    go : (a b c : Bool) → eqb (length folds % 3) 0 ≡ a → ltb 256 (length folds / 3) ≡ b → ◌≡◌ {A = ℕ} (cond (not a || (b || c)) 5 0) 0 →
        (length folds ≡ 3 * (length folds / 3)) × (length folds / 3 ≤ 256)
    go false b c d e h = absurd (omega (arith, h))
    go true true c d e h = absurd (omega (arith, h))
    go true false c d e h = (omega (arith, eqb-true (length folds % 3) 0 d), ltb-false 256 (length folds / 3) e)

-- rows by a map that keeps their order and their bound
module _ (f : ℕ → ℕ) (rows rows' : ℕ) (up : (x y : ℕ) → x ≤ y → y < rows → f x ≤ f y) (inside : (x : ℕ) → x < rows → f x < rows') where
  pub kept_good : (l : List ℕ) → any_fold (bad_fold rows) l ≡ false → any_fold (bad_fold rows') (kept_folds f l) ≡ false
  unfolding any_fold kept_folds
  kept_good [] b = refl
  kept_good (s ∷ []) b = refl
  kept_good (s ∷ e ∷ []) b = refl
  kept_good (s ∷ e ∷ closed ∷ folds) b =
      let by_neither = neither (bad_fold rows s e closed) (any_fold (bad_fold rows) folds) b in
      let by_good_fold = good_fold rows s e closed by_neither.0 in
      go (is_lost s e (f s) (f e)) (up s e by_good_fold.0 by_good_fold.1) (inside e by_good_fold.1) by_good_fold.2 (kept_good folds by_neither.1)
    where
      go : (b : Bool) → f s ≤ f e → f e < rows' → closed ≤ 1 → any_fold (bad_fold rows') (kept_folds f folds) ≡ false →
          any_fold (bad_fold rows') (cond b (kept_folds f folds) (f s ∷ f e ∷ closed ∷ kept_folds f folds)) ≡ false
      go true x y z ih = ih
      go false x y z ih = rw (le-ltb (f e) (f s) x, lt-leb rows' (f e) y, le-ltb 1 closed z) ih

-- folds that no number of theirs refuses
pub folds_accepted : (l : List ℕ) (rows : ℕ) → length l ≡ 3 * (length l / 3) → length l / 3 ≤ 256 → any_fold (bad_fold rows) l ≡ false → fold_refusal l rows ≡ 0
unfolding fold_refusal
folds_accepted l rows e h b =
    let remainder_is : length l % 3 ≡ 0 = omega arith in
    rw (eq-eqb (length l % 3) 0 remainder_is, le-ltb 256 (length l / 3) h, b)
