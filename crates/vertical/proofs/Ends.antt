-- A sticky column past the cells of every row: `j` and `k` from a row's last character lead to the last of each row that they come to.
-- Over any width function and tabstop of at most 1,000. Assumes nothing.
use Rattle.lists.proofs.Kit.{◌≡◌, ap, sym, ◌∙◌, List, ℕ, ◌≤◌, ◌<◌, ℕ_discrete, arith, length, eq-eqb, ne_eqb, Some}
use lib.IntN.{ℤ}
use Rattle.text.specs.Text.{row_count, row_at, row_len, last_col}
use Rattle.text.proofs.Parts.{row_fits}
use Rattle.row_tabs.proofs.Accepted.{stop_most}
use Rattle.row_columns.proofs.Laws.{column_most, char_past}
use Rattle.visible_rows.specs.Visible.{vertical_row}
use Rattle.vertical.specs.Moves.{aimed_col, landed, move_vertical}
use Rattle.vertical.proofs.Inside.{vertical_within}

module _ (w : ℕ → ℕ) (wide : (x : ℕ) → w x ≤ 1000) (t : List ℕ) (brief : length t ≤ 1048576) (tabstop : ℕ) (near : tabstop ≤ 1000)
    (want : ℕ) (past : 1048576000 ≤ want) where
  -- a row has at most 1,000 cells for each character
  pub aimed_last : (row : ℕ) → row < row_count t → aimed_col w t tabstop want row ≡ last_col t row
  aimed_last row h =
      let cells = column_most w tabstop (row_at t row) 1000 wide (stop_most tabstop 1000 (omega arith) near) (row_len t row) in
      let end = char_past w tabstop (row_at t row) want (omega arith) (omega (arith, cells, row_fits t row h)) in
      rw end (omega arith)

  pub vertical_last : (folds : List ℕ) (z : ℤ) (row col : ℕ) → row < row_count t → col ≡ last_col t row →
      let move_vertical_lem = move_vertical w t folds tabstop z row col (Some want) in move_vertical_lem.col ≡ last_col t move_vertical_lem.row
  unfolding landed
  vertical_last folds z row col h e = go (ℕ_discrete target row)
    where
      target : ℕ
      target = vertical_row folds (row_count t) z row

      go : Dec (target ≡ row) → (move_vertical w t folds tabstop z row col (Some want)).col ≡ last_col t (move_vertical w t folds tabstop z row col (Some want)).row
      go (yes same) = rw (eq-eqb target row same) (e ∙ ap (last_col t) (sym same))
      go (no other) = rw (ne_eqb target row other) (aimed_last target (vertical_within folds (row_count t) z row h))
