-- A caret that is corrected goes where its offset goes, and stays a caret. Assumes nothing.
use Rattle.lists.proofs.Kit.{◌≡◌, ap, sym, List, Bool, true, false, cond, ℕ, ◌+◌, ◌-◌, ◌≤◌, arith, eqb}
use Rattle.text.specs.Text.{position}
use Rattle.text.specs.declared.Position.{Position}
use Rattle.motions.specs.declared.Caret.{Caret}
use Rattle.motions.specs.Carets.{here}
use Rattle.edit_positions.specs.declared.Change.{Change}
use Rattle.edit_positions.specs.After.{offset_of}
use Rattle.edit_positions.specs.Change.{is_before, end_of, behind, moved_by}
use Rattle.edit_positions.proofs.Places.{Stays, pos_of_lem}
use Rattle.edit_positions.proofs.Going.{moved_after}
use Rattle.edit_carets.specs.Carets.{cleared_at, caret_after, corrected_by, Fits}

-- rows and columns of what is moved
module _ (k : Caret) (c : Change) (f : Fits k c) (row_k : k.row ≤ 4294967295) (col_k : k.col ≤ 4294967295) where
  fits_behind : (b : Bool) →
      let choice = cond b (position c.end.row (c.end.col + (k.col - c.to.col))) (position (c.end.row + (k.row - c.to.row)) k.col) in
      (choice.row ≤ 4294967295) × (choice.col ≤ 4294967295)
  fits_behind true = (omega (arith, f.sums.row_fits), omega (arith, f.sums.col_fits))
  fits_behind false = (omega (arith, f.sums.row_fits), omega arith)

  fits_all : (a b : Bool) (z : Position) → (z.row ≤ 4294967295) × (z.col ≤ 4294967295) →
      let choice = cond a (here k) (cond b c.from z) in
      (choice.row ≤ 4294967295) × (choice.col ≤ 4294967295)
  fits_all true b z h = (row_k, col_k)
  fits_all false true z h = (f.row_fits, f.col_fits)
  fits_all false false z h = h

  pub moved_fits : ((moved_by c (here k)).row ≤ 4294967295) × ((moved_by c (here k)).col ≤ 4294967295)
  unfolding moved_by behind
  moved_fits = fits_all (is_before (here k) c.from) (is_before (here k) c.to) _ (fits_behind (eqb k.row c.to.row))

-- by rows and columns, or by offsets
pub corrected_after : (t c : List ℕ) (p q : Position) (k : Caret) → Stays t p (offset_of t p) → Stays t q (offset_of t q) → offset_of t p ≤ offset_of t q →
    Stays t (here k) (offset_of t (here k)) → corrected_by k (record { from = p; to = q; end = end_of p c }) ≡ caret_after t p q c k
corrected_after t c p q k first second order caret = ap cleared_at (sym (pos_of_lem (moved_after t c p q (offset_of t p) (offset_of t q) first second order caret)))
