-- Laws of find on a row: where a search starts, and where it lands, in one direction or the other.
-- Assumes nothing.
use Rattle.lists.proofs.Kit.{◌≡◌, refl, sym, ◌∙◌, ap, List, Bool, true, false, cond, ◌&&◌, ℕ, ◌+◌, ◌-◌, ◌≤◌, ◌<◌, arith, length, ltb, Option, Some, None}
use Rattle.row_search.specs.Find.{is, landing, start_ahead, start_back, nearest_on, stops, find_on_row}
use Rattle.row_search.proofs.Nearest.{never}
use Rattle.row_search.proofs.Told.{at_once, at_some, first_told, last_told}

-- one of two numbers is at most, or at least, what both are
either_ge : (b : Bool) (m n k : ℕ) → k ≤ m → k ≤ n → k ≤ cond b m n
either_ge true m n k p q = p
either_ge false m n k p q = q

either_le : (b : Bool) (m n k : ℕ) → m ≤ k → n ≤ k → cond b m n ≤ k
either_le true m n k p q = p
either_le false m n k p q = q

module _ (row : List ℕ) (col x : ℕ) (again : Bool) where
  ahead_from : col + 1 ≤ start_ahead row col x again
  ahead_from = either_ge (again && (ltb (col + 1) (length row) && is row x (col + 1))) (col + 2) (col + 1) (col + 1) (omega arith) (omega arith)

  pub back_within : start_back row col x again ≤ col
  back_within = either_le (again && (ltb 0 col && is row x (col - 1))) (col - 1) col col (omega arith) (omega arith)

  -- the match is a place of the row, and one to the right is not the first
  nearest_inside : (forward : Bool) {i : ℕ} → col ≤ length row → nearest_on row col x forward again ≡ Some i → i < length row
  nearest_inside true {i} h e = (first_told (is row x) (start_ahead row col x again) (length row) i e).below
  nearest_inside false {i} h e = omega (arith, (last_told (is row x) (start_back row col x again) i e).below, back_within)

  nearest_past : (forward : Bool) {i : ℕ} → forward ≡ true → nearest_on row col x forward again ≡ Some i → 0 < i
  nearest_past true {i} p e = omega (arith, (first_told (is row x) (start_ahead row col x again) (length row) i e).from, ahead_from)
  nearest_past false p e = absurd (never p refl)

-- by the match f: that it can be moved, and where a find lands
module _ (row : List ℕ) (col x : ℕ) (forward till skip : Bool) {f : Option ℕ} (is_nearest : f ≡ nearest_on row col x forward (skip && till)) where
  pub match_inside : {i : ℕ} → col ≤ length row → f ≡ Some i → i < length row
  match_inside h s = nearest_inside row col x (skip && till) forward h (sym is_nearest ∙ s)

  pub match_past : {i : ℕ} → forward ≡ true → f ≡ Some i → 0 < i
  match_past p s = nearest_past row col x (skip && till) forward p (sym is_nearest ∙ s)

  pub find_onto : {i n : ℕ} → f ≡ Some i → n ≡ stops forward till i → Some n ≡ find_on_row row col x forward till skip
  unfolding landing
  find_onto s e = rw (← is_nearest, s) (ap Some e)

  pub find_nowhere : f ≡ None → None ≡ find_on_row row col x forward till skip
  unfolding landing
  find_nowhere s = rw (← is_nearest, s)

-- which is a column of the row
landed : (g : ℕ → ℕ) (f : Option ℕ) {j : ℕ} → landing g f ≡ Some j → (i : ℕ) × (f ≡ Some i) × (j ≡ g i)
unfolding landing
landed g (Some i) e = (i, refl, sym (at_once e))
landed g None e = absurd (at_some (sym e))

pub find_within : (row : List ℕ) (col x : ℕ) (forward till skip : Bool) {j : ℕ} → col ≤ length row
    → find_on_row row col x forward till skip ≡ Some j → j ≤ length row
find_within row col x forward till skip h e =
    let by_landed = landed (stops forward till) _ e in
    let i = by_landed.0 in
    let near = either_le till (cond forward (i - 1) (i + 1)) i (i + 1) (either_le forward (i - 1) (i + 1) (i + 1) (omega arith) (omega arith)) (omega arith) in
    omega (arith, by_landed.2, near, nearest_inside row col x (skip && till) forward h by_landed.1)
