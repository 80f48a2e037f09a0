-- Folds that are accepted over so many rows: no number of theirs is greater. Assumes nothing.
use Rattle.lists.proofs.Kit.{◌≡◌, refl, List, [], ◌∷◌, Bool, true, false, ◌||◌, ℕ, zero, suc, ◌-◌, ◌*◌, ◌≤◌, ◌<◌, arith, length, get_or, ltb, leb, ltb-false}
use Rattle.lists.proofs.Kit.{leb-false}
use Rattle.folds.specs.Folds.{any_fold, bad_fold}

pub neither : (a b : Bool) → (a || b) ≡ false → (a ≡ false) × (b ≡ false)
neither false b e = (refl, e)
neither true b e = let never : ◌≡◌ {A = Bool} true false = e in (cc, cc)

-- a fold that is not bad
pub good_fold : (rows s e closed : ℕ) → bad_fold rows s e closed ≡ false → (s ≤ e) × (e < rows) × (closed ≤ 1)
good_fold rows s e closed b =
    let by_neither = neither (ltb e s) (leb rows e || ltb 1 closed) b in
    let neither_here = neither (leb rows e) (ltb 1 closed) by_neither.1 in
    (ltb-false e s by_neither.0, leb-false rows e neither_here.0, ltb-false 1 closed neither_here.1)

pub folds_small : (rows : ℕ) → 0 < rows → (l : List ℕ) → any_fold (bad_fold rows) l ≡ false → (n : ℕ) → length l ≡ 3 * n → (i : ℕ) → i < 3 * n → get_or l i 0 ≤ rows
unfolding any_fold
folds_small rows h [] b n e i l = absurd (omega arith)
folds_small rows h (s ∷ []) b n e i l = absurd (omega arith)
folds_small rows h (s ∷ t ∷ []) b n e i l = absurd (omega arith)
folds_small rows h (s ∷ t ∷ k ∷ folds) b n e i l =
    let by_neither = neither (bad_fold rows s t k) (any_fold (bad_fold rows) folds) b in
    go by_neither (λ j m. folds_small rows h folds by_neither.1 (n - 1) (omega arith) j m) i l
  where
    go : (bad_fold rows s t k ≡ false) × (any_fold (bad_fold rows) folds ≡ false) → ((j : ℕ) → j < 3 * (n - 1) → get_or folds j 0 ≤ rows) →
        (j : ℕ) → j < 3 * n → get_or (s ∷ t ∷ k ∷ folds) j 0 ≤ rows
    go x ih zero m = let by_good_fold = good_fold rows s t k x.0 in omega (arith, by_good_fold.0, by_good_fold.1)
    go x ih (suc zero) m = let by_good_fold = good_fold rows s t k x.0 in omega (arith, by_good_fold.1)
    go x ih (suc (suc zero)) m = let by_good_fold = good_fold rows s t k x.0 in omega (arith, by_good_fold.2)
    go x ih (suc (suc (suc j))) m = ih j (omega arith)
