-- Under narrow every call says what it said before there was a setting: its statement by `width_of`. Definitions only; `as_before` is in
-- `proofs/Before.antt`, by definition. Assumes nothing.
use Rattle.std.specs.Prelude.{ℕ, ◌≡◌, List, Bool}
use Rattle.chars.specs.White.{is_white}
use Rattle.chars.specs.Width.{width_of}
use Rattle.widths.specs.declared.Ambiguous.TheVariants.{Narrow}
use Rattle.widths.specs.Widths.{width_as}
use Rattle.row_check.specs.Row.{row_refusal, column_of}
use Rattle.row_tabs.specs.Cells.{column_refusal}
use Rattle.row_columns.specs.Columns.{char_col, visual_col, cursor_col}
use Rattle.row_columns.specs.Calls.{visual_col_to_char_col, char_col_to_visual_col, cursor_visual_col}
use Rattle.row_cells.specs.Offsets.{char_at_offset, offset_of_char}
use Rattle.row_offsets.specs.Calls.{char_col_for_visual_offset, visual_offset_for_char_col}
use Rattle.row_wrap.specs.declared.Wrap.{Wrap}
use Rattle.row_wrap.specs.declared.Segments.{Segments}
use Rattle.row_wrap.specs.Modes.{segments_of}
use Rattle.row_wrap.specs.Room.{Answered}
use Rattle.row_wrap.specs.Calls.{wrap_refusal, Wraps}
use Rattle.visible_rows.specs.Visible.{delta_of}
use Rattle.vertical.specs.Moves.{move_vertical}
use Rattle.screen.specs.Screen.{move_screen}
use Rattle.motions.specs.declared.Caret.{Caret}
use Rattle.motions.specs.Carets.{moving}
use Rattle.motions.specs.UpDown.{vertical_refusal, at_target, move_rows, move_screen_rows}

pub record AsBefore : Type 1 where
  pub width : (x : ℕ) → width_as Narrow x ≡ width_of x
  pub char_cols : (row : List ℕ) (visual tabstop : ℕ) →
      visual_col_to_char_col Narrow row visual tabstop ≡ column_of (column_refusal row tabstop) (char_col width_of tabstop row visual)
  pub visual_cols : (row : List ℕ) (col tabstop : ℕ) →
      char_col_to_visual_col Narrow row col tabstop ≡ column_of (column_refusal row tabstop) (visual_col width_of tabstop row col)
  pub cursor_cols : (row : List ℕ) (col tabstop : ℕ) →
      cursor_visual_col Narrow row col tabstop ≡ column_of (column_refusal row tabstop) (cursor_col width_of tabstop row col)
  pub chars_at : (row : List ℕ) (start end offset : ℕ) →
      char_col_for_visual_offset Narrow row start end offset ≡ column_of (row_refusal row) (char_at_offset width_of row start end offset)
  pub cells_at : (row : List ℕ) (start col : ℕ) →
      visual_offset_for_char_col Narrow row start col ≡ column_of (row_refusal row) (offset_of_char width_of row start col)
  pub wraps : (mode : Wrap) (width : ℕ) (row room : List ℕ) (r : Segments) (room' : List ℕ) →
      Wraps Narrow mode width row room r room' ≡
      (let segments = segments_of width_of is_white mode width row in Answered (wrap_refusal row segments room) segments room r room')
  pub rows : (t folds : List ℕ) (tabstop : ℕ) (down : Bool) (n : ℕ) (k : Caret) →
      move_rows Narrow t folds tabstop down n k ≡
      moving (vertical_refusal t folds tabstop k) (at_target (move_vertical width_of t folds tabstop (delta_of down n) k.row k.col k.sticky))
  pub screen : (t folds : List ℕ) (tabstop : ℕ) (mode : Wrap) (width : ℕ) (down : Bool) (n : ℕ) (k : Caret) →
      move_screen_rows Narrow t folds tabstop mode width down n k ≡
      moving (vertical_refusal t folds tabstop k) (at_target (move_screen width_of t folds tabstop mode width down n k.row k.col k.sticky))
