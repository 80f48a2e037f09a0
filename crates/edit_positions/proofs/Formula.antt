-- Laws of where a position goes, case by case, and of the end of what is put in. Assumes nothing.
use Rattle.lists.proofs.Kit.{◌≡◌, sym, ap, ◌∙◌, List, true, false, ℕ, ◌+◌, ◌-◌, ◌≤◌, arith, length, eq-eqb, ne_eqb, ltb-false}
use Rattle.text.specs.Text.{row_count, position}
use Rattle.text.specs.Offsets.{row_start, line_at, Stands}
use Rattle.text.specs.declared.Line.{Line}
use Rattle.text.specs.declared.Position.{Position}
use Rattle.text.proofs.Rows.{start_zero}
use Rattle.text.proofs.Stands.{last_stands, stands_at_lem}
use Rattle.bracket_walks.specs.Matching.{pos_of}
use Rattle.edit_positions.specs.declared.Change.{Change}
use Rattle.edit_positions.specs.Change.{is_before, beyond, end_of, behind, moved_by}
use Rattle.edit_positions.proofs.Places.{position_eq, pos_of_lem}

-- a position that does not stand before another
module _ (x y : Position) (n : is_before x y ≡ false) where
  pub not_before_col : x.row ≡ y.row → y.col ≤ x.col
  unfolding is_before
  not_before_col e = omega (arith, ltb-false x.col y.col (rw (eq-eqb x.row y.row e) at n))

  pub not_before_row : (x.row ≡ y.row → ⊥) → y.row ≤ x.row
  unfolding is_before
  not_before_row e = omega (arith, ltb-false x.row y.row (rw (ne_eqb x.row y.row e) at n))

module _ (c : Change) (x : Position) where
  pub moved_before : is_before x c.from ≡ true → x ≡ moved_by c x
  unfolding moved_by
  moved_before b = rw b

  module _ (n : is_before x c.from ≡ false) where
    pub moved_inside : is_before x c.to ≡ true → c.from ≡ moved_by c x
    unfolding moved_by
    moved_inside b = rw (n, b)

    pub moved_row : is_before x c.to ≡ false → x.row ≡ c.to.row → position c.end.row (c.end.col + (x.col - c.to.col)) ≡ moved_by c x
    unfolding moved_by behind
    moved_row m e = rw (n, m, eq-eqb x.row c.to.row e)

    pub moved_later : is_before x c.to ≡ false → (x.row ≡ c.to.row → ⊥) → position (c.end.row + (x.row - c.to.row)) x.col ≡ moved_by c x
    unfolding moved_by behind
    moved_later m e = rw (n, m, ne_eqb x.row c.to.row e)

-- the end of a text with s separators
module _ (t : List ℕ) (s : ℕ) (is : s + 1 ≡ row_count t) where
  last : Stands t s (row_start t s) (length t)
  last =
      let row_count_less_one : row_count t - 1 ≡ s = omega arith in
      rw row_count_less_one at (last_stands t)

  pub end_stands : Stands t s (row_start t s) (length t)
  end_stands = last

  end_is : pos_of t (length t) ≡ position s (length t - row_start t s)
  end_is = pos_of_lem {x = position s (length t - row_start t s)} (stands_at_lem last)

  -- its last row begins before it
  pub end_from_lem : (l : Line) → l ≡ line_at t (s - 0) → l.start ≤ length t
  end_from_lem l e =
      let s_less_zero : s - 0 ≡ s = omega arith in
      omega (arith, last.from, rw s_less_zero at (ap (λ (y : Line). y.start) e))

  pub end_row : (p : Position) → s ≡ 0 → position p.row (p.col + length t) ≡ end_of p t
  unfolding beyond
  end_row p z =
      let row_start_is : row_start t s ≡ 0 = rw z (start_zero t) in
      let pos_is : pos_of t (length t) ≡ position 0 (length t) = end_is ∙ position_eq z (omega arith) in
      sym (ap (beyond p) pos_is ∙ position_eq (omega arith) (omega arith))

  pub end_below : (p : Position) (l : Line) → (s ≡ 0 → ⊥) → l ≡ line_at t (s - 0) → position (p.row + s) (length t - l.start) ≡ end_of p t
  unfolding beyond
  end_below p l n e =
      let s_less_zero : s - 0 ≡ s = omega arith in
      let start_is : l.start ≡ row_start t s = rw s_less_zero at (ap (λ (y : Line). y.start) e) in
      sym (ap (beyond p) end_is ∙ rw (ne_eqb s 0 n, start_is))
