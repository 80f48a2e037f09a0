-- Rows that no fold hides, found in one pass over the folds. Assumes nothing.
use Rattle.lists.proofs.Kit.{◌≡◌, ◌∙◌, List, ◌++◌, Bool, true, false, and-false, ℕ, ◌+◌, ◌-◌, ◌≤◌, ◌<◌, min, arith, length, get_or, eqb, ltb, ne_eqb, le-ltb}
use Rattle.lists.proofs.Kit.{lt-leb}
use Rattle.folds.specs.Folds.{any_fold, fold_hides, hidden}
use Rattle.folds.proofs.Hiding.{any_fold_next, any_fold_few}
use Rattle.visible_rows.specs.Visible.{rows_beyond, Clear, Free, shift}

-- no row up to a fold's first is hidden by it, and none after its last
hides_low : (x s e closed : ℕ) → x ≤ s → fold_hides x s e closed ≡ false
hides_low x s e closed h = rw (le-ltb s x h) (and-false (eqb closed 1))

hides_high : (x s e closed : ℕ) → e < x → fold_hides x s e closed ≡ false
hides_high x s e closed h = rw (lt-leb x e h, and-false (ltb s x)) (and-false (eqb closed 1))

module _ {down : Bool} {row s e closed free : ℕ} where
  -- an open fold hides nothing
  pub clear_open : (closed ≡ 1 → ⊥) → Clear down row s e closed free free
  clear_open n = record { most = omega arith; shown = λ k p l. rw (ne_eqb closed 1 n) }

  -- one that lies behind hides no row that is to come, and one ahead none before its first hidden row: down, and up
  pub clear_behind : down ≡ true → e ≤ row → Clear down row s e closed free free
  clear_behind d h = rw d (record { most = omega arith; shown = λ k p l. hides_high (row + k) s e closed (omega arith) })

  pub clear_ahead : {r : ℕ} → down ≡ true → r ≡ min free (s - row) → Clear down row s e closed free r
  clear_ahead {r} d m = rw d (record { most = omega arith; shown = λ k p l. hides_low (row + k) s e closed (omega arith) })

  pub clear_behind_up : down ≡ false → row ≤ s + 1 → Clear down row s e closed free free
  clear_behind_up d h = rw d (record { most = omega arith; shown = λ k p l. hides_low (row - k) s e closed (omega arith) })

  pub clear_ahead_up : {r : ℕ} → down ≡ false → r ≡ min free (row - 1 - e) → Clear down row s e closed free r
  clear_ahead_up {r} d m = rw d (record { most = omega arith; shown = λ k p l. hides_high (row - k) s e closed (omega arith) })

-- the folds before those that are left hide none of the next `free` rows
pub record FreeTo (folds : List ℕ) (rows : ℕ) (down : Bool) (row free size : ℕ) (left : List ℕ) : Type 0 where
  pub three : size ≡ 3
  pub within : free ≤ rows_beyond down rows row
  pub shown : (k : ℕ) → 0 < k → k ≤ free → hidden folds (shift down row k) ≡ any_fold (fold_hides (shift down row k)) left

module _ {folds : List ℕ} {rows : ℕ} {down : Bool} {row free size : ℕ} {left : List ℕ} (so_far : FreeTo folds rows down row free size left) where
  pub free_step : (x rest : List ℕ) {r size' : ℕ} → size' ≡ size → left ≡ x ++ rest → length x ≡ size →
      Clear down row (get_or x 0 0) (get_or x 1 0) (get_or x 2 0) free r → FreeTo folds rows down row r size' rest
  free_step x rest {r} same next full clear =
      record {
        three = same ∙ so_far.three;
        within = omega (arith, so_far.within, clear.most);
        shown = λ k p l. so_far.shown k p (omega (arith, clear.most))
            ∙ any_fold_next left x rest next (full ∙ so_far.three) (fold_hides (shift down row k)) ∙ rw (clear.shown k p l);
      }

  pub free_end : length left < size → Free folds rows down row free
  free_end h =
      record {
        within = so_far.within;
        shown = λ k p l. so_far.shown k p l ∙ any_fold_few (fold_hides (shift down row k)) left (omega (arith, so_far.three));
      }
