-- The text's own table, by its test and place by place. Assumes nothing.
use Rattle.lists.proofs.Kit.{◌≡◌, refl, ap, sym, ◌∙◌, List, Bool, true, false, ℕ, ◌-◌, ◌≤◌, ◌<◌, ℕ_discrete, arith, length, get_or, take, ext_get_or, get_or-take}
use Rattle.lists.proofs.Kit.{length-take-le, eq-eqb, ne_eqb}
use Rattle.lists.specs.Lists.{is_same}
use Rattle.lists.proofs.Same.{same_refl, same_true}
use Rattle.text.specs.Text.{row_count}
use Rattle.text.specs.Offsets.{row_start}
use Rattle.text.proofs.At.{at_start, at_le}
use Rattle.text.proofs.Before.{start_after, before_row_nl}
use Rattle.row_table.specs.Table.{row_starts, holds_rows}
use Rattle.row_table.proofs.Starts.{rows_length, rows_read}

-- equal lists and `is_same`
pub same_yes : (a b : List ℕ) → a ≡ b → is_same a b ≡ true
same_yes a b e = rw e (same_refl b)

pub same_no : (a b : List ℕ) → (a ≡ b → ⊥) → is_same a b ≡ false
same_no a b n = go (is_same a b) refl
  where
    go : (x : Bool) → is_same a b ≡ x → is_same a b ≡ false
    go true e = absurd (n (same_true a b e))
    go false e = e

-- and the test that the text has so many rows, too
module _ (t : List ℕ) (rows : ℕ) (starts : List ℕ) where
  pub held_yes : rows ≡ row_count t → take (row_count t) starts ≡ row_starts t → holds_rows t rows starts ≡ true
  held_yes q e = rw (eq-eqb rows (row_count t) q, same_yes _ _ e)

  pub held_same : rows ≡ row_count t → holds_rows t rows starts ≡ is_same (take (row_count t) starts) (row_starts t)
  held_same q = rw (eq-eqb rows (row_count t) q)

  pub held_no : (rows ≡ row_count t → take (row_count t) starts ≡ row_starts t → ⊥) → holds_rows t rows starts ≡ false
  held_no n = go (ℕ_discrete rows (row_count t))
    where
      go : Dec (rows ≡ row_count t) → holds_rows t rows starts ≡ false
      go (yes q) = rw (eq-eqb rows (row_count t) q, same_no _ _ (n q))
      go (no m) = rw (ne_eqb rows (row_count t) m)

-- the table of the text, place by place
module _ (t starts : List ℕ) where
  pub table_by_places : row_count t ≤ length starts → ((j : ℕ) → j < row_count t → get_or starts j 0 ≡ row_start t j) → take (row_count t) starts ≡ row_starts t
  table_by_places h each =
      let by_length_take_le = length-take-le (row_count t) starts h in
      ext_get_or 0 (take (row_count t) starts) (row_starts t) (by_length_take_le ∙ sym (rows_length t)) (λ j l.
      let j_below : j < row_count t = omega arith in
      get_or-take (row_count t) starts j 0 j_below ∙ each j j_below ∙ sym (rows_read t j j_below))

  module _ (e : take (row_count t) starts ≡ row_starts t) (j : ℕ) (h : j < row_count t) where
    pub table_place : get_or starts j 0 ≡ row_start t j
    table_place = sym (get_or-take (row_count t) starts j 0 h) ∙ ap (λ (l : List ℕ). get_or l j 0) e ∙ rows_read t j h

    pub table_within : get_or starts j 0 ≤ length t
    table_within = rw table_place (at_le (at_start t j h))

    pub table_behind : 0 < j → get_or t (get_or starts j 0 - 1) 0 ≡ 10
    table_behind p = rw table_place (before_row_nl (at_start t j h) refl p)

  pub table_ascends : take (row_count t) starts ≡ row_starts t → (j : ℕ) → 0 < j → j < row_count t → get_or starts (j - 1) 0 < get_or starts j 0
  table_ascends e j p h = omega (arith, table_place e j h, table_place e (j - 1) (omega arith), start_after t j p h)
