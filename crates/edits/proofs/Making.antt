-- What the edit itself asks for: rows and columns that are small, in their order, and folds that can be raised. Assumes nothing.
use Rattle.lists.proofs.Kit.{◌≡◌, ap, List, Bool, true, false, cond, ℕ, ◌+◌, ◌-◌, ◌*◌, ◌≤◌, ◌<◌, dec_lt, arith, length, take, length-take-le, get_or-take, eqb}
use Rattle.text.specs.Text.{row_count}
use Rattle.text.specs.declared.Position.{Position}
use Rattle.text.proofs.At.{at_le}
use Rattle.text.proofs.Before.{start_ge, rows_apart}
use Rattle.text.proofs.Parts.{count_le}
use Rattle.text.proofs.Stands.{last_stands, stands_row}
use Rattle.folds.specs.Folds.{fold_refusal}
use Rattle.folds.proofs.Past.{folds_good}
use Rattle.motions.specs.declared.Caret.{Caret}
use Rattle.motions.specs.Carets.{here}
use Rattle.bracket_walks.specs.Matching.{pos_of}
use Rattle.edit_folds.specs.Folds.{Raises}
use Rattle.edit_positions.specs.After.{offset_of}
use Rattle.edit_positions.specs.Change.{beyond, end_of, Near}
use Rattle.edit_positions.proofs.Places.{pos_there}
use Rattle.edit_carets.specs.Carets.{Fits}
use Rattle.edits.specs.Editable.{StandsIn}
use Rattle.edits.proofs.Small.{folds_small}

pub near : (t : List ℕ) (x : Position) → StandsIn t x → length t ≤ 1048576 → Near x
near t x a h =
    let by_start_ge = start_ge t x.row a.in_row in
    record { row_near = omega (arith, at_le a); col_near = omega (arith, at_le a) }

pub rows_in_order : (t : List ℕ) (p q : Position) → StandsIn t p → StandsIn t q → offset_of t p ≤ offset_of t q → p.row ≤ q.row
rows_in_order t p q a b o = go (dec_lt q.row p.row)
  where
    go : Dec (q.row < p.row) → p.row ≤ q.row
    go (yes h) = absurd (omega (arith, rows_apart t q.row p.row h a.in_row, b.in_col))
    go (no n) = omega arith

-- the rows of what is put in
pub end_rows : (p : Position) (c : List ℕ) → (end_of p c).row ≡ p.row + (row_count c - 1)
unfolding beyond
end_rows p c = ap (λ (n : ℕ). p.row + n) (stands_row (last_stands c))

end_col : (p : Position) (c : List ℕ) → (end_of p c).col ≤ p.col + length c
unfolding beyond
end_col p c = go (eqb (pos_of c (length c)).row 0) (omega (arith, (pos_there c (length c) (omega arith)).offset))
  where
    go : (b : Bool) → (pos_of c (length c)).col ≤ length c → cond b (p.col + (pos_of c (length c)).col) (pos_of c (length c)).col ≤ p.col + length c
    go true h = omega arith
    go false h = omega arith

pub folds_raise : (buf : List ℕ) (rows n k : ℕ) → 0 < rows → fold_refusal (take (3 * n) buf) rows ≡ 0 → 3 * n ≤ length buf → rows + k ≤ 4294967295 →
    Raises buf (3 * n) k
folds_raise buf rows n k pos good fits sum =
    let by_length_take_le = length-take-le (3 * n) buf fits in
    record {
      room = λ i h.
          omega (arith, folds_small rows pos (take (3 * n) buf) (folds_good (take (3 * n) buf) rows good) n by_length_take_le i h, get_or-take (3 * n) buf i 0 h);
    }

pub fits_caret : (t c : List ℕ) (p q : Position) (k : Caret) → StandsIn t p → Near (here k) → Near p → length c ≤ 1048576 →
    Fits k (record { from = p; to = q; end = end_of p c })
fits_caret t c p q k a x y h =
    record {
      sums = record {
        row_fits = omega (arith, end_rows p c, count_le c, x.row_near, y.row_near);
        col_fits = omega (arith, end_col p c, x.col_near, y.col_near);
      };
      row_fits = omega (arith, y.row_near);
      col_fits = omega (arith, y.col_near);
    }
