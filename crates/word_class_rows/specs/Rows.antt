-- Rows by the classes alone: the row of a place, and the first, the last and the end place of a row. Document 02, #113.
-- Every row has one place that ends it. Definitions only; the laws are in `proofs/Counting.antt`. Assumes nothing.
use Rattle.std.specs.Prelude.{ℕ, zero, suc, ◌+◌, ◌-◌, ◌≤◌, ◌<◌, ◌≡◌, List, [], ◌∷◌, cond, length, leb}
use Rattle.word_kinds.specs.declared.Spot.{Spot}
use Rattle.word_places.specs.Places.{is_empty}
use Rattle.word_hops.specs.Hops.{last_empty}

-- the row of a place: the row ends before it
unfoldable pub row_of : List ℕ → ℕ → ℕ
row_of c zero = 0
row_of [] (suc i) = 0
row_of (x ∷ c) (suc i) = cond (leb 3 x) (suc (row_of c i)) (row_of c i)

-- all rows, and those with content
abbrev pub rows_of : List ℕ → ℕ
rows_of c = row_of c (length c)

abbrev pub content_of : List ℕ → ℕ
content_of c = cond (last_empty c) (rows_of c - 1) (rows_of c)

-- the place that ends a row
unfoldable pub end_of : List ℕ → ℕ → ℕ
end_of [] r = 0
end_of (x ∷ c) zero = cond (leb 3 x) 0 (suc (end_of c zero))
end_of (x ∷ c) (suc r) = suc (end_of c (cond (leb 3 x) r (suc r)))

-- the first place of a row, and its last character, or its only place where it is empty
abbrev pub start_of : List ℕ → ℕ → ℕ
start_of c zero = 0
start_of c (suc r) = end_of c r + 1

abbrev pub last_of : List ℕ → ℕ → ℕ
last_of c r = cond (is_empty c (end_of c r)) (end_of c r) (end_of c r - 1)

-- a spot whose row is that of its place
pub record Stands (c : List ℕ) (p : Spot) : Type 0 where
  pub within : p.at ≤ length c
  pub row_is : p.row ≡ row_of c p.at

-- such a spot at a given place
pub record StandsAt (c : List ℕ) (i : ℕ) (p : Spot) : Type 0 where
  pub place : p.at ≡ i
  pub stands : Stands c p

-- what the functions require: places from a up to b
pub record Places (c : List ℕ) (a b : ℕ) : Type 0 where
  pub order : a ≤ b
  pub within : b ≤ length c

-- a spot, and another place
pub record Apart (c : List ℕ) (p : Spot) (i : ℕ) : Type 0 where
  pub stands : Stands c p
  pub within : i ≤ length c

-- a spot, and its row or one behind it
pub record Onward (c : List ℕ) (p : Spot) (row : ℕ) : Type 0 where
  pub stands : Stands c p
  pub not_past : p.row ≤ row
  pub in_row : row < rows_of c

-- a spot, and its row or one before it
pub record Backward (c : List ℕ) (p : Spot) (row : ℕ) : Type 0 where
  pub stands : Stands c p
  pub not_before : row ≤ p.row
