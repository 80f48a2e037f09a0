-- What the given Rust answers in corners of it. Each holds by computation. Assumes nothing.
use Rattle.lists.proofs.Kit.{◌≡◌, refl, List, [], ◌∷◌, true, false, ℕ, Some, None}
use Rattle.chars.specs.White.{whites, is_white}
use Rattle.chars.specs.Width.{zero_widths, double_widths, width_by, width_of}
use Rattle.row_tabs.specs.Cells.{stop_of}
use Rattle.row_columns.specs.Columns.{visual_from, char_from}
use Rattle.row_wrap.specs.declared.Wrap.TheVariants.{Char}
use Rattle.row_cells.specs.Cells.{fits}
use Rattle.row_segment.specs.Segments.{after_white, first_segment}
use Rattle.row_wrap.specs.Segments.{segments_from}
use Rattle.row_wrap.specs.Modes.{segments_of}
use Rattle.row_cells.specs.Offsets.{pairs_before}
use Rattle.text.specs.Text.{on_first, rows}
use Rattle.folds.specs.Folds.{any_fold, visible_from, prev_visible}
use Rattle.lists.specs.Rounds.{rounds}
use Rattle.visible_rows.specs.Visible.{vertical_row}
use Rattle.vertical.specs.Moves.{landed}
use Rattle.screen.specs.Screen.{step_screen, move_screen}

-- rows `a`, `bcde`, fold 0 to 1 closed, width 2: `gj` goes on inside the fold's hidden last row
pub inside_fold : move_screen width_of (97 ∷ 10 ∷ 98 ∷ 99 ∷ 100 ∷ 101 ∷ []) (0 ∷ 1 ∷ 1 ∷ []) 8 Char 2 true 1 0 0 None ≡ record { row = 1; col = 2; want = 0 }
unfolding
    rounds vertical_row landed on_first rows any_fold visible_from prev_visible stop_of visual_from char_from zero_widths double_widths width_by width_of
    step_screen segments_of segments_from first_segment fits after_white pairs_before whites is_white
inside_fold = refl

-- rows `aaa`, empty, `bbb`, from the last column: `gk` by 2 keeps the offset, and twice `gk` by 1 loses it in the empty row
abbrev three_rows : List ℕ
three_rows = 97 ∷ 97 ∷ 97 ∷ 10 ∷ 10 ∷ 98 ∷ 98 ∷ 98 ∷ []

pub no_sum : (move_screen width_of three_rows [] 8 Char 9 false 2 2 2 None ≡ record { row = 0; col = 2; want = 2 }) ×
    (move_screen width_of three_rows [] 8 Char 9 false 1 2 2 None ≡ record { row = 1; col = 0; want = 2 }) ×
    (move_screen width_of three_rows [] 8 Char 9 false 1 1 0 (Some 2) ≡ record { row = 0; col = 0; want = 2 })
unfolding
    rounds vertical_row landed on_first rows any_fold visible_from prev_visible stop_of visual_from char_from zero_widths double_widths width_by width_of
    step_screen segments_of segments_from first_segment fits after_white pairs_before whites is_white
no_sum = (refl, refl, refl)
