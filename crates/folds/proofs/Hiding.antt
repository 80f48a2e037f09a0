-- Laws of folds: a loop over them three numbers at a time, and what the first fold that hides a row says.
-- Assumes nothing.
use Rattle.lists.proofs.Kit.{◌≡◌, refl, List, [], ◌∷◌, ◌++◌, Bool, true, false, cond, ◌&&◌, ◌||◌, or-true, ℕ, ◌≤◌, ◌<◌, arith, length, get_or, Option, Some, None}
use Rattle.lists.proofs.Kit.{eqb, ltb, leb, ltb-true, leb-true, leb-false, lt-ltb, le-leb}
use Rattle.folds.specs.Folds.{any_fold, bad_fold, fold_hides, hidden}
use Rattle.folds.specs.Cover.{cover_of}
use Rattle.lists.proofs.Both.{both}

-- fewer than three numbers are no fold
pub any_fold_few : (p : ℕ → ℕ → ℕ → Bool) (l : List ℕ) → length l ≤ 2 → any_fold p l ≡ false
unfolding any_fold
any_fold_few p [] h = refl
any_fold_few p (s ∷ []) h = refl
any_fold_few p (s ∷ e ∷ []) h = refl
any_fold_few p (s ∷ e ∷ k ∷ l) h = absurd (omega arith)

pub cover_few : (l : List ℕ) (row : ℕ) → length l ≤ 2 → cover_of l row ≡ None
unfolding cover_of
cover_few [] row h = refl
cover_few (s ∷ []) row h = refl
cover_few (s ∷ e ∷ []) row h = refl
cover_few (s ∷ e ∷ k ∷ l) row h = absurd (omega arith)

-- the next three numbers of what is left
module _ (l x rest : List ℕ) (next : l ≡ x ++ rest) (three : length x ≡ 3) where
  pub any_fold_next : (p : ℕ → ℕ → ℕ → Bool) → any_fold p l ≡ (p (get_or x 0 0) (get_or x 1 0) (get_or x 2 0) || any_fold p rest)
  unfolding any_fold
  any_fold_next p = rw next (go x three)
    where
      go : (x : List ℕ) → length x ≡ 3 → any_fold p (x ++ rest) ≡ (p (get_or x 0 0) (get_or x 1 0) (get_or x 2 0) || any_fold p rest)
      go [] h = absurd (omega arith)
      go (s ∷ []) h = absurd (omega arith)
      go (s ∷ e ∷ []) h = absurd (omega arith)
      go (s ∷ e ∷ k ∷ []) h = refl
      go (s ∷ e ∷ k ∷ y ∷ x) h = absurd (omega arith)

  pub cover_next : (row : ℕ) →
      cover_of l row ≡ cond (fold_hides row (get_or x 0 0) (get_or x 1 0) (get_or x 2 0)) (Some (get_or x 0 0, get_or x 1 0)) (cover_of rest row)
  unfolding cover_of
  cover_next row = rw next (go x three)
    where
      go : (x : List ℕ) → length x ≡ 3 →
          cover_of (x ++ rest) row ≡ cond (fold_hides row (get_or x 0 0) (get_or x 1 0) (get_or x 2 0)) (Some (get_or x 0 0, get_or x 1 0)) (cover_of rest row)
      go [] h = absurd (omega arith)
      go (s ∷ []) h = absurd (omega arith)
      go (s ∷ e ∷ []) h = absurd (omega arith)
      go (s ∷ e ∷ k ∷ []) h = refl
      go (s ∷ e ∷ k ∷ y ∷ x) h = absurd (omega arith)

-- what the answer of `cover_of` says: no fold hides the row, or all rows of that fold are hidden, and it ends inside the rows
abbrev pub Covers : List ℕ → ℕ → Option (ℕ × ℕ) → Type 0
Covers folds row None = hidden folds row ≡ false
Covers folds row (Some (s, e)) =
    (s < row) × (row ≤ e) × ((x : ℕ) → s < x → x ≤ e → hidden folds x ≡ true) × ((rows : ℕ) → any_fold (bad_fold rows) folds ≡ false → e < rows)

-- the parts of a join that are false
or_left : (a b : Bool) → (a || b) ≡ false → a ≡ false
or_left true b e = e
or_left false b e = refl

pub or_right : (a b : Bool) → (a || b) ≡ false → b ≡ false
or_right true b e = cc
or_right false b e = e

-- a fold that hides a row hides all of its rows
fold_hides_lem : (row s e k : ℕ) → fold_hides row s e k ≡ true → (s < row) × (row ≤ e) × ((x : ℕ) → s < x → x ≤ e → fold_hides x s e k ≡ true)
fold_hides_lem row s e k h =
    let by_both = both (eqb k 1) (ltb s row && leb row e) h in
    let both_here = both (ltb s row) (leb row e) by_both.1 in
    (ltb-true _ _ both_here.0, leb-true _ _ both_here.1, λ x l m. rw (by_both.0, lt-ltb s x l, le-leb x e m))

pub cover_covers : (folds : List ℕ) (row : ℕ) → Covers folds row (cover_of folds row)
unfolding any_fold cover_of
cover_covers [] row = refl
cover_covers (s ∷ []) row = refl
cover_covers (s ∷ e ∷ []) row = refl
cover_covers (s ∷ e ∷ k ∷ folds) row = go (fold_hides row s e k) refl (cover_of folds row) (cover_covers folds row)
  where
    go : (b : Bool) → fold_hides row s e k ≡ b → (r : Option (ℕ × ℕ)) → Covers folds row r → Covers (s ∷ e ∷ k ∷ folds) row (cond b (Some (s, e)) r)
    go true h r ih =
        let by_fold_hides = fold_hides_lem row s e k h in (
          by_fold_hides.0,
          by_fold_hides.1,
          (λ x l m. rw (by_fold_hides.2 x l m)),
          λ rows g. leb-false rows e (or_left _ (ltb 1 k) (or_right (ltb e s) _ (or_left _ (any_fold (bad_fold rows) folds) g))),
        )
    go false h None ih = rw (h, ih)
    go false h (Some (a, b)) ih = (ih.0, ih.1, (λ x l m. rw (ih.2 x l m, or-true)), λ rows g. ih.3 rows (or_right (bad_fold rows s e k) _ g))
