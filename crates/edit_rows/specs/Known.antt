-- What the checks of an edit with a table require and leave known, and what the edit itself requires and leaves. Definitions only. Assumes nothing.
use Rattle.std.specs.Prelude.{ℕ, ◌*◌, ◌≤◌, max, ◌≡◌, List, length, take}
use Rattle.text.specs.Text.{row_count}
use Rattle.text.specs.declared.Position.{Position}
use Rattle.motions.specs.declared.Caret.{Caret}
use Rattle.edit_places.specs.Replaced.{refilled}
use Rattle.edit_positions.specs.After.{offset_of}
use Rattle.row_table.specs.Table.{row_starts}
use Rattle.edit_checks.specs.declared.Checked.{Checked}
use Rattle.edit_checks.specs.declared.Sizes.{Sizes}
use Rattle.edits.specs.Edits.{new_text, new_folds}
use Rattle.edits.specs.Editable.{StandsIn, Editable}
use Rattle.edit_rows.specs.declared.Kept.{Kept}
use Rattle.edit_rows.specs.declared.Rows.{Rows}
use Rattle.edit_rows.specs.Rows.{rows_refusal, kept_of}

-- the stretch from p up to q stands in the text, the first len places of buf
pub record Stretch (buf : List ℕ) (len : ℕ) (p q : Position) : Type 0 where
  pub fits : len ≤ length buf
  pub brief : len ≤ 1048576
  pub first : StandsIn (take len buf) p
  pub second : StandsIn (take len buf) q
  pub order : offset_of (take len buf) p ≤ offset_of (take len buf) q
  pub rows_order : p.row ≤ q.row

-- what the check of the table requires: a text with so many rows, and c is to be put in
pub record Checkable (buf : List ℕ) (len before : ℕ) (p q : Position) (c : List ℕ) : Type 0 where
  pub stretch : Stretch buf len p q
  pub rows_are : before ≡ row_count (take len buf)
  pub points_brief : length c ≤ 1048576

-- what the check of the table finds out
pub record RowsChecked (t table : List ℕ) (content : ℕ) (new : List ℕ) (r : Rows) : Type 0 where
  pub refusal_is : r.refusal ≡ rows_refusal t new table content
  pub before_is : r.before ≡ row_count t
  pub after_is : r.after ≡ row_count new

-- the table is the text's, and has room for the new one
pub record Tabled (t table new : List ℕ) (r : Rows) : Type 0 where
  pub held : take (row_count t) table ≡ row_starts t
  pub room : max (row_count t) (row_count new) ≤ length table
  pub before_is : r.before ≡ row_count t
  pub after_is : r.after ≡ row_count new

-- what the edit itself requires: nothing refuses it, and the table is the text's
pub record Makeable (buf folds table : List ℕ) (s : Sizes) (at : Checked) (rows : Rows) (p q : Position) (c : List ℕ) (k : Caret) : Type 0 where
  pub editable : Editable buf folds s at p q c k
  pub tabled : Tabled (take s.len buf) table (new_text buf s p q c) rows

-- a text in the first len places of buf, with so many rows
pub record Counted (buf : List ℕ) (len rows : ℕ) : Type 0 where
  pub fits : len ≤ length buf
  pub brief : len ≤ 1048576
  pub rows_are : rows ≡ row_count (take len buf)

pub record MakesRows (buf fold table : List ℕ) (s : Sizes) (p q : Position) (c : List ℕ) (k : Caret) (r : Kept) (buf' folds' starts' : List ℕ) : Type 0 where
  pub answer : r ≡ kept_of buf fold s p q c k
  pub text : buf' ≡ refilled buf s.len (new_text buf s p q c)
  pub folds : folds' ≡ refilled fold (3 * s.count) (new_folds fold s p q c)
  pub starts : starts' ≡ refilled table (row_count (take s.len buf)) (row_starts (new_text buf s p q c))
