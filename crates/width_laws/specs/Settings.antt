-- Narrow and wide side by side. Definitions only; `never_less` and `same_without` are in `proofs/Settings.antt`. Assumes nothing.
use Rattle.std.specs.Prelude.{ℕ, ◌≤◌, ◌≡◌, List, Bool, false}
use Rattle.lists.specs.Lists.{any}
use Rattle.chars.specs.White.{is_white}
use Rattle.widths.specs.declared.Ambiguous.TheVariants.{Narrow, Wide}
use Rattle.widths.specs.Widths.{is_ambiguous, width_as}
use Rattle.row_columns.specs.Columns.{visual_col, cursor_col}
use Rattle.row_columns.specs.Calls.{visual_col_to_char_col, char_col_to_visual_col, cursor_visual_col}
use Rattle.row_cells.specs.Offsets.{offset_of_char}
use Rattle.row_offsets.specs.Calls.{char_col_for_visual_offset, visual_offset_for_char_col}
use Rattle.row_wrap.specs.declared.Wrap.{Wrap}
use Rattle.row_wrap.specs.Modes.{segments_of}
use Rattle.motions.specs.declared.Caret.{Caret}
use Rattle.motions.specs.UpDown.{move_rows, move_screen_rows, move_screen_rows_kept}

-- wide is never less: the cells of a character, the visual column of each character of a row, where a cursor is drawn, and the cells before a column
pub record NeverLess : Type 0 where
  pub cells : (x : ℕ) → width_as Narrow x ≤ width_as Wide x
  pub columns : (tabstop : ℕ) (row : List ℕ) (i : ℕ) → visual_col (width_as Narrow) tabstop row i ≤ visual_col (width_as Wide) tabstop row i
  pub cursors : (tabstop : ℕ) (row : List ℕ) (i : ℕ) → cursor_col (width_as Narrow) tabstop row i ≤ cursor_col (width_as Wide) tabstop row i
  pub offsets : (row : List ℕ) (start col : ℕ) → offset_of_char (width_as Narrow) row start col ≤ offset_of_char (width_as Wide) row start col

-- no character of the list is of class A
abbrev pub Without : List ℕ → Type 0
Without l = any is_ambiguous l ≡ false

-- the answers of every call on such a row, refusals included
pub record SameOnRow (row : List ℕ) : Type 0 where
  pub char_cols : (visual tabstop : ℕ) → visual_col_to_char_col Wide row visual tabstop ≡ visual_col_to_char_col Narrow row visual tabstop
  pub visual_cols : (col tabstop : ℕ) → char_col_to_visual_col Wide row col tabstop ≡ char_col_to_visual_col Narrow row col tabstop
  pub cursor_cols : (col tabstop : ℕ) → cursor_visual_col Wide row col tabstop ≡ cursor_visual_col Narrow row col tabstop
  pub chars_at : (start end offset : ℕ) → char_col_for_visual_offset Wide row start end offset ≡ char_col_for_visual_offset Narrow row start end offset
  pub cells_at : (start col : ℕ) → visual_offset_for_char_col Wide row start col ≡ visual_offset_for_char_col Narrow row start col
  pub segments : (mode : Wrap) (width : ℕ) → segments_of (width_as Wide) is_white mode width row ≡ segments_of (width_as Narrow) is_white mode width row

-- and on such a text
pub record SameOnText (t : List ℕ) : Type 0 where
  pub rows : (folds : List ℕ) (tabstop : ℕ) (down : Bool) (n : ℕ) (k : Caret)
      → move_rows Wide t folds tabstop down n k ≡ move_rows Narrow t folds tabstop down n k
  pub screen : (folds : List ℕ) (tabstop : ℕ) (mode : Wrap) (width : ℕ) (down : Bool) (n : ℕ) (k : Caret) →
      move_screen_rows Wide t folds tabstop mode width down n k ≡ move_screen_rows Narrow t folds tabstop mode width down n k
  pub kept : (folds : List ℕ) (tabstop : ℕ) (mode : Wrap) (width : ℕ) (down : Bool) (n : ℕ) (k : Caret) →
      move_screen_rows_kept Wide t folds tabstop mode width down n k ≡ move_screen_rows_kept Narrow t folds tabstop mode width down n k

pub record SameWithout : Type 0 where
  pub on_row : (row : List ℕ) → Without row → SameOnRow row
  pub on_text : (t : List ℕ) → Without t → SameOnText t
