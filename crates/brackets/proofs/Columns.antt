-- Laws of the offset of a column: what the walk in the row finds, and what it says.
-- Assumes nothing.
use Rattle.lists.proofs.Kit.{◌≡◌, refl, sym, ap, List, Bool, true, false, cond, ℕ, ◌+◌, ◌≤◌, ◌<◌, arith, length, get_or, ltb, lt-ltb, le-ltb, ltb-true, ltb-false, Some, None}
use Rattle.text.specs.Text.{row_len}
use Rattle.text.specs.Offsets.{row_start, Stands}
use Rattle.text.proofs.At.{on_char, on_nl, on_end}
use Rattle.text.proofs.Stands.{stands_at_lem}
use Rattle.brackets.specs.Walk.{column_of}
use Rattle.row_search.proofs.Told.{at_once, at_some}

-- from the offset i of a row, `left` columns before the one sought: it is there, or the row ends, at a separator or with the text
module _ {t : List ℕ} {row start i : ℕ} (s : Stands t row start i) (col left : ℕ) (e : i + left ≡ start + col) where
  pub column_at_lem : i < length t → (get_or t i 0 ≡ 10 → ⊥) → left ≡ 0 → Some i ≡ column_of t row col
  unfolding column_of
  column_at_lem h n z =
      let col_below : col < row_len t row = omega (arith, on_char (stands_at_lem s) h n, s.from) in
      rw (lt-ltb _ _ col_below) (ap Some (omega (arith, s.begins)))

  out : row_len t row ≤ col → None ≡ column_of t row col
  unfolding column_of
  out l = rw (le-ltb _ _ l)

  pub column_nl : i < length t → get_or t i 0 ≡ 10 → None ≡ column_of t row col
  column_nl h x = out (omega (arith, on_nl (stands_at_lem s) h x, s.from))

  pub column_end : length t ≤ i → None ≡ column_of t row col
  column_end h = out (omega (arith, on_end (stands_at_lem s) h, s.from))

-- what the offset of a column says
pub column_told : (t : List ℕ) (row col : ℕ) (at : ℕ) → column_of t row col ≡ Some at → (col < row_len t row) × (at ≡ row_start t row + col)
unfolding column_of
column_told t row col at e = on (ltb col (row_len t row)) refl e
  where
    on : (b : Bool) → ltb col (row_len t row) ≡ b → cond b (Some (row_start t row + col)) None ≡ Some at → (col < row_len t row) × (at ≡ row_start t row + col)
    on true p q = (ltb-true _ _ p, sym (at_once q))
    on false p q = absurd (at_some (sym q))

pub column_none : (t : List ℕ) (row col : ℕ) → column_of t row col ≡ None → row_len t row ≤ col
unfolding column_of
column_none t row col e = on (ltb col (row_len t row)) refl e
  where
    on : (b : Bool) → ltb col (row_len t row) ≡ b → cond b (Some (row_start t row + col)) None ≡ None → row_len t row ≤ col
    on true p q = absurd (at_some q)
    on false p q = ltb-false _ _ p
