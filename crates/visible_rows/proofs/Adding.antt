-- Counts of visible rows add, down and up. Up starts from the first row of the fold that hides its row: it lands on a row that shows, or no row above
-- shows, so that this start happens once. Assumes nothing.
use Rattle.lists.proofs.Kit.{◌≡◌, refl, ap, sym, ◌∙◌, List, Bool, true, false, cond, ℕ, zero, suc, ◌+◌, ◌-◌, ◌≤◌, ◌<◌, max, arith, Option, Some, None}
use Rattle.folds.specs.Folds.{hidden, next_visible, prev_visible}
use Rattle.folds.proofs.Past.{visible_within, prev_within, prev_shown}
use Rattle.lists.specs.Rounds.{rounds}
use Rattle.lists.proofs.Rounds.{rounds_on, rounds_none, rounds_add, rounds_keep}
use Rattle.visible_rows.specs.Visible.{row_or, step_row, shown_row, vertical_row, delta_of}

module _ (folds : List ℕ) (rows : ℕ) where
  step_down : (row : ℕ) → row ≤ step_row folds rows true row
  step_down row = go (next_visible folds rows row) refl
    where
      go : (v : Option ℕ) → next_visible folds rows row ≡ v → row ≤ row_or row v
      go (Some x) e = omega (arith, visible_within folds (row + 1) (rows - (row + 1)) x e)
      go None e = omega arith

  step_up : (row : ℕ) → step_row folds rows false row ≤ row
  step_up row = go (prev_visible folds row) refl
    where
      go : (v : Option ℕ) → prev_visible folds row ≡ v → row_or row v ≤ row
      go (Some x) e = omega (arith, prev_within folds row x e)
      go None e = omega arith

  shown_up : (row : ℕ) → shown_row folds rows row ≤ row
  shown_up row = go (hidden folds row)
    where
      go : (b : Bool) → cond b (step_row folds rows false row) row ≤ row
      go true = step_up row
      go false = omega arith

  -- a row that a step up has led to shows, or no row above it does
  shown_there : (row : ℕ) → shown_row folds rows (step_row folds rows false row) ≡ step_row folds rows false row
  shown_there row = go (prev_visible folds row) refl
    where
      same : (b : Bool) → cond b row row ≡ row
      same true = refl
      same false = refl

      go : (v : Option ℕ) → prev_visible folds row ≡ v → shown_row folds rows (row_or row v) ≡ row_or row v
      go (Some x) e = rw (prev_shown folds row x e)
      go None e = rw e (same (hidden folds row))

  shown_after : (m row : ℕ) → 0 < m → let up = rounds (step_row folds rows false) m row in shown_row folds rows up ≡ up
  shown_after m row h = rw last (shown_there (rounds (step_row folds rows false) (m - 1) row))
    where
      last : rounds (step_row folds rows false) m row ≡ step_row folds rows false (rounds (step_row folds rows false) (m - 1) row)
      last =
          let all : m ≡ (m - 1) + 1 = omega arith in
          ap (λ (x : ℕ). rounds (step_row folds rows false) x row) all ∙ rounds_add (step_row folds rows false) (m - 1) 1 row
          ∙ rounds_on (step_row folds rows false) 1 _ (omega arith) ∙ rounds_none (step_row folds rows false) 0 _ (omega arith)

  -- a row that a count leads to, down or up
  abbrev pub to : Bool → ℕ → ℕ → ℕ
  to down n row = vertical_row folds rows (delta_of down n) row

  down_rounds : (n row : ℕ) → 0 < n → to true n row ≡ rounds (step_row folds rows true) n row
  unfolding vertical_row
  down_rounds n row h =
      let one : max n 1 ≡ n = omega arith in
      rw one

  up_rounds : (n row : ℕ) → 0 < n → to false n row ≡ rounds (step_row folds rows false) n (shown_row folds rows row)
  unfolding vertical_row
  up_rounds zero row h = absurd (omega arith)
  up_rounds (suc n) row h =
      let one : max (suc n) 1 ≡ suc n = omega arith in
      rw one

  pub rows_add : (down : Bool) (m n row : ℕ) → 0 < m → 0 < n → to down (m + n) row ≡ to down n (to down m row)
  rows_add true m n row h k = down_rounds (m + n) row (omega arith) ∙ rounds_add (step_row folds rows true) m n row
      ∙ ap (rounds (step_row folds rows true) n) (sym (down_rounds m row h)) ∙ sym (down_rounds n (to true m row) k)
  rows_add false m n row h k = up_rounds (m + n) row (omega arith) ∙ rounds_add (step_row folds rows false) m n (shown_row folds rows row)
      ∙ ap (rounds (step_row folds rows false) n) (sym (shown_after m (shown_row folds rows row) h))
      ∙ ap (λ (r : ℕ). rounds (step_row folds rows false) n (shown_row folds rows r)) (sym (up_rounds m row h)) ∙ sym (up_rounds n (to false m row) k)

  -- none of them leads back: where both counts lead to the row itself, so did the first
  pub back_none : (down : Bool) (m n row : ℕ) → 0 < m → 0 < n → to down n (to down m row) ≡ row → to down m row ≡ row
  back_none true m n row h k e = omega (arith, e, far m row h, far n (to true m row) k)
    where
      far : (n row : ℕ) → 0 < n → row ≤ to true n row
      far n row h = rw (down_rounds n row h) (rounds_keep (λ r. row ≤ r) (step_row folds rows true) (λ r i. omega (arith, i, step_down r)) n row (omega arith))
  back_none false m n row h k e = omega (arith, e, far m row h, far n (to false m row) k)
    where
      far : (n row : ℕ) → 0 < n → to false n row ≤ row
      far n row h = rw (up_rounds n row h)
          (rounds_keep (λ r. r ≤ row) (step_row folds rows false) (λ r i. omega (arith, i, step_up r)) n (shown_row folds rows row) (shown_up row))
