-- From a place in the text `j` and `k` lead to a place in the text: a row of its rows, a column of at most the row's count.
-- Assumes nothing.
use Rattle.lists.proofs.Kit.{◌≡◌, refl, ap, List, Bool, true, false, cond, ℕ, suc, ◌≤◌, ◌<◌, ℕ_discrete, arith, eq-eqb, ne_eqb, Option, Some, None}
use lib.IntN.{ℤ, pos, negsuc}
use Rattle.text.specs.Text.{row_count, row_len}
use Rattle.folds.specs.Folds.{hidden}
use Rattle.lists.proofs.Rounds.{rounds_keep}
use Rattle.visible_rows.specs.Visible.{toward, row_or, step_row, shown_row, vertical_row}
use Rattle.vertical.specs.Moves.{landed, move_vertical}
use Rattle.visible_rows.proofs.Visible.{toward_within}

pub record Inside (t : List ℕ) (row col : ℕ) : Type 0 where
  pub in_row : row < row_count t
  pub in_col : col ≤ row_len t row

-- rows
module _ (folds : List ℕ) (rows : ℕ) where
  step_within : (down : Bool) (row : ℕ) → row < rows → step_row folds rows down row < rows
  step_within down row h = go (toward folds rows down row) refl
    where
      go : (v : Option ℕ) → toward folds rows down row ≡ v → row_or row v < rows
      go (Some x) e = toward_within folds rows down row x h e
      go None e = h

  shown_within : (row : ℕ) → row < rows → shown_row folds rows row < rows
  shown_within row h = go (hidden folds row)
    where
      go : (b : Bool) → cond b (step_row folds rows false row) row < rows
      go true = step_within false row h
      go false = h

  pub vertical_within : (z : ℤ) (row : ℕ) → row < rows → vertical_row folds rows z row < rows
  unfolding vertical_row
  vertical_within (pos n) row h = rounds_keep (λ r. r < rows) (step_row folds rows true) (step_within true) n row h
  vertical_within (negsuc n) row h = rounds_keep (λ r. r < rows) (step_row folds rows false) (step_within false) (suc n) (shown_row folds rows row)
      (shown_within row h)

-- `j` and `k`
pub landed_inside : (w : ℕ → ℕ) (t : List ℕ) (tabstop want row col target : ℕ) → Inside t row col → target < row_count t →
    Inside t (landed w t tabstop want row col target).row (landed w t tabstop want row col target).col
unfolding landed
landed_inside w t tabstop want row col target i h = go (ℕ_discrete target row)
  where
    go : Dec (target ≡ row) → Inside t (landed w t tabstop want row col target).row (landed w t tabstop want row col target).col
    go (yes e) = record { in_row = h; in_col = rw (eq-eqb target row e) (omega (arith, i.in_col, ap (row_len t) e)) }
    go (no n) = record { in_row = h; in_col = rw (ne_eqb target row n) (omega arith) }

pub rows_inside : (w : ℕ → ℕ) (t folds : List ℕ) (tabstop row col : ℕ) (sticky : Option ℕ) (z : ℤ) → Inside t row col →
    let move_vertical_lem = move_vertical w t folds tabstop z row col sticky in Inside t move_vertical_lem.row move_vertical_lem.col
rows_inside w t folds tabstop row col sticky z i = landed_inside w t tabstop _ row col _ i (vertical_within folds (row_count t) z row i.in_row)
