-- What the given Rust answers in corners of it. Each holds by computation. Assumes nothing.
use Rattle.lists.proofs.Kit.{◌≡◌, refl, [], ◌∷◌, true, false, None}
use Rattle.chars.specs.Width.{zero_widths, double_widths, width_by, width_of}
use Rattle.row_tabs.specs.Cells.{stop_of}
use Rattle.row_columns.specs.Columns.{visual_from, char_from}
use Rattle.text.specs.Text.{on_first, rows}
use Rattle.folds.specs.Folds.{any_fold, visible_from, prev_visible}
use Rattle.lists.specs.Rounds.{rounds}
use Rattle.visible_rows.specs.Visible.{vertical_row, delta_of}
use Rattle.vertical.specs.Moves.{landed, move_vertical}

-- `a` and a separator: `j` reaches the last empty row; on it `j` stays, and the sticky column is set
pub last_empty_lem : (move_vertical width_of (97 ∷ 10 ∷ []) [] 8 (delta_of true 1) 0 0 None ≡ record { row = 1; col = 0; want = 0 }) ×
    (move_vertical width_of (97 ∷ 10 ∷ []) [] 8 (delta_of true 0) 1 0 None ≡ record { row = 1; col = 0; want = 0 })
unfolding rounds vertical_row landed on_first rows any_fold visible_from prev_visible stop_of visual_from char_from zero_widths double_widths width_by width_of
last_empty_lem = (refl, refl)

-- rows `a`, `b`, `c`, the last two in a closed fold from row 1: `k` from the hidden row lands above the fold
pub above_fold : move_vertical width_of (97 ∷ 10 ∷ 98 ∷ 10 ∷ 99 ∷ []) (1 ∷ 2 ∷ 1 ∷ []) 8 (delta_of false 1) 2 0 None ≡ record { row = 0; col = 0; want = 0 }
unfolding rounds vertical_row landed on_first rows any_fold visible_from prev_visible stop_of visual_from char_from zero_widths double_widths width_by width_of
above_fold = refl
