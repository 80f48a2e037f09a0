-- From visible row to visible row, as `move_vertical` of motions.rs goes, down or up.
-- Definitions only; the laws are in `proofs/Visible.antt`. Assumes nothing.
use Rattle.std.specs.Prelude.{ℕ, suc, ◌+◌, ◌-◌, ◌≤◌, ◌<◌, max, ◌≡◌, List, Bool, true, false, cond, ℤ, pos, negsuc, neg_ℤ, Option, Some, None}
use Rattle.folds.specs.Folds.{fold_hides, hidden, next_visible, prev_visible}
use Rattle.visible_rows.specs.declared.Hop.{Hop}
use Rattle.lists.specs.Rounds.{rounds}

-- so many rows or segments further, down or up
abbrev pub shift : Bool → ℕ → ℕ → ℕ
shift down i n = cond down (i + n) (i - n)

-- the nearest visible row below or above
abbrev pub toward : List ℕ → ℕ → Bool → ℕ → Option ℕ
toward folds rows down row = cond down (next_visible folds rows row) (prev_visible folds row)

-- the row itself, where there is none
abbrev pub row_or : ℕ → Option ℕ → ℕ
row_or row (Some next) = next
row_or row None = row

-- one visible row on
abbrev pub step_row : List ℕ → ℕ → Bool → ℕ → ℕ
step_row folds rows down row = row_or row (toward folds rows down row)

-- the signed row step of a count: 0 acts as 1
abbrev pub delta_of : Bool → ℕ → ℤ
delta_of down count = cond down (pos (max count 1)) (neg_ℤ (pos (max count 1)))

-- the way up starts from the first row of the fold that hides the row
abbrev pub shown_row : List ℕ → ℕ → ℕ → ℕ
shown_row folds rows row = cond (hidden folds row) (step_row folds rows false row) row

-- the row that a signed step of visible rows leads to
unfoldable pub vertical_row : List ℕ → ℕ → ℤ → ℕ → ℕ
vertical_row folds rows (pos n) row = rounds (step_row folds rows true) n row
vertical_row folds rows (negsuc n) row = rounds (step_row folds rows false) (suc n) (shown_row folds rows row)

-- r is the row n of so many
pub record RowIs (n rows r : ℕ) : Type 0 where
  pub row : r ≡ n
  pub inside : r < rows

-- how many of a text's rows are below or above
abbrev pub rows_beyond : Bool → ℕ → ℕ → ℕ
rows_beyond down rows row = cond down (rows - 1 - row) row

-- this fold hides none of the first r of the next `free` rows
pub record Clear (down : Bool) (row s e closed free r : ℕ) : Type 0 where
  pub most : r ≤ free
  pub shown : (k : ℕ) → 0 < k → k ≤ r → fold_hides (shift down row k) s e closed ≡ false

-- no fold hides the next `free` rows, by which the code passes them at once
pub record Free (folds : List ℕ) (rows : ℕ) (down : Bool) (row free : ℕ) : Type 0 where
  pub within : free ≤ rows_beyond down rows row
  pub shown : (k : ℕ) → 0 < k → k ≤ free → hidden folds (shift down row k) ≡ false

-- the next visible row, and rows after it that no fold hides
pub record HopTo (folds : List ℕ) (rows : ℕ) (down : Bool) (row : ℕ) (r : Hop) : Type 0 where
  pub found : r.next ≡ toward folds rows down row
  pub onward : (x : ℕ) → r.next ≡ Some x → Free folds rows down x r.free
