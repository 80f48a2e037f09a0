-- What one pass over a text tells of it and of its table of row starts. Definitions only; the laws are in `proofs/`. Assumes nothing.
use Rattle.std.specs.Prelude.{◌≡◌, ℕ, suc, ◌+◌, ◌%◌, ◌≤◌, Bool, true, cond, List, [], ◌∷◌, length, ◌==◌, ◌≢◌, bit_and, bit_or, nat_le}
use Rattle.text_check.specs.Accept.{text_refusal}
use Rattle.text.specs.Text.{row_count}
use Rattle.row_table.specs.Table.{holds_rows, table_refusal}
use Rattle.text_rows.specs.declared.Found.{Found}
use Rattle.text_rows.specs.declared.Held.{Held}

-- the refusal of a text, how many rows it has, and the refusal of its table
abbrev pub found_in : List ℕ → List ℕ → ℕ → Found
found_in t starts content = record { refusal = text_refusal t; rows = row_count t; table = table_refusal (row_count t) t starts content }

-- a separator, or what may be a line break below U+2000 that a text may not hold
abbrev pub is_mark : ℕ → Bool
is_mark x = bit_and ((x + 2) % 4294967296) 0xffffff74 == 4

-- how many of them
unfoldable pub marks_in : List ℕ → ℕ
marks_in [] = 0
marks_in (x ∷ t) = let later = marks_in t in cond (is_mark x) (suc later) later

-- the bits of all values together, with those of `bits`
unfoldable pub all_bits : ℕ → List ℕ → ℕ
all_bits bits [] = bits
all_bits bits (x ∷ t) = all_bits (bit_or bits x) t

-- what is read of a text: whether it has a code point from U+2000 on, and its marks
pub record ReadIn (t : List ℕ) (r : Held) : Type 0 where
  pub high : r.high ≡ nat_le 0x2000 (all_bits 0 t)
  pub marks : r.marks ≡ marks_in t
  pub few : r.marks ≤ length t

-- where rows are told, the text is accepted, and the table holds their starts
pub record Tells (t starts : List ℕ) (rows : ℕ) : Type 0 where
  pub accepted : (rows ≢ 0) → text_refusal t ≡ 0
  pub held : (rows ≢ 0) → holds_rows t rows starts ≡ true
  pub room : (rows ≢ 0) → rows ≤ length starts
