-- Row starts after an edit: those behind it move with their text. From document 02, #106. Definitions only; the laws are in `proofs/`. Assumes nothing.
use Rattle.std.specs.Prelude.{ℕ, ◌+◌, ◌-◌, ◌≤◌, ◌<◌, List, ◌++◌, map, length, get_or, take, drop}
use Rattle.text.specs.Text.{row_count}
use Rattle.row_table.specs.Table.{starts_from}

-- a start behind a stretch of `less` code points that has given way to `more`
abbrev pub moved_start : ℕ → ℕ → ℕ → ℕ
moved_start less more s = s - less + more

-- the starts l once the stretch from the offset a, in row r, up to b, in row q, has given way to c: up to row r they stay, then come those of c,
-- and those behind row q move. That they are the row starts of the new text is `starts_replaced` of `proofs/Kept.antt`
unfoldable pub kept_starts : List ℕ → ℕ → ℕ → ℕ → ℕ → List ℕ → List ℕ
kept_starts l r q a b c = take (r + 1) l ++ starts_from a c ++ map (moved_start (b - a) (length c)) (drop (q + 1) l)

-- the starts in the places from `from` up to `to` can move so
pub record Moves (starts : List ℕ) (from to less more : ℕ) : Type 0 where
  pub room : (i : ℕ) → from ≤ i → i < to → (less ≤ get_or starts i 0) × (get_or starts i 0 + more ≤ 4294967295)

-- and the places are of the table
pub record Movable (starts : List ℕ) (from to less more : ℕ) : Type 0 where
  pub order : from ≤ to
  pub within : to ≤ length starts
  pub moves : Moves starts from to less more

-- the starts in the places from x up to y, of so many rows, can give way to those of c, put at the offset `at`
pub record Replaceable (starts : List ℕ) (rows x y at : ℕ) (c : List ℕ) : Type 0 where
  pub order : x ≤ y
  pub last_row : y ≤ rows
  pub fits : rows ≤ length starts
  pub room : rows - (y - x) + row_count c ≤ length starts + 1
  pub near : at + length c ≤ 4294967295

-- a table of so many rows whose starts can be kept in such an edit
pub record Keepable (starts : List ℕ) (rows r q a b : ℕ) (c : List ℕ) : Type 0 where
  pub rows_order : r ≤ q
  pub last_row : q < rows
  pub fits : rows ≤ length starts
  pub order : a ≤ b
  pub near : b ≤ 4294967295
  pub points_near : a + length c ≤ 4294967295
  pub room : rows - (q - r) + row_count c ≤ length starts + 1
  pub moves : Moves starts (q + 1) rows (b - a) (length c)
