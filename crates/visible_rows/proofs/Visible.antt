-- From visible row to visible row: rows that no fold hides are as many rounds. Assumes nothing.
use Rattle.lists.proofs.Kit.{◌≡◌, sym, ap, ◌∙◌, List, Bool, true, false, ℕ, zero, suc, ◌+◌, ◌-◌, ◌*◌, ◌≤◌, ◌<◌, add-zero, arith, Some, None}
use Rattle.folds.specs.Folds.{hidden}
use Rattle.folds.proofs.Past.{next_here, prev_here, visible_within, prev_within}
use Rattle.lists.specs.Rounds.{rounds}
use Rattle.visible_rows.specs.Visible.{toward, row_or, step_row, rows_beyond, Free, HopTo, shift}
use Rattle.lists.proofs.Rounds.{rounds_on, rounds_none, rounds_still, rounds_add}

module _ (folds : List ℕ) (rows : ℕ) where
  -- the next row, where no fold hides it
  pub toward_next : (down : Bool) (row : ℕ) → 0 < rows_beyond down rows row → hidden folds (shift down row 1) ≡ false →
      toward folds rows down row ≡ Some (shift down row 1)
  toward_next true row h v = next_here folds rows (row + 1) v (omega arith)
  toward_next false row h v = prev_here folds row v h

  -- a visible row is one of the text's
  pub toward_within : (down : Bool) (row x : ℕ) → row < rows → toward folds rows down row ≡ Some x → x < rows
  toward_within true row x h e = omega (arith, visible_within folds (row + 1) (rows - (row + 1)) x e)
  toward_within false row x h e = omega (arith, prev_within folds row x e)

pub shift_within : (down : Bool) (rows row k : ℕ) → row < rows → k ≤ rows_beyond down rows row → shift down row k < rows
shift_within true rows row k h l = omega arith
shift_within false rows row k h l = omega arith

pub shift_small : (down : Bool) (rows row k : ℕ) → row < rows → k ≤ rows_beyond down rows row → row + k < 2 * rows
shift_small true rows row k h l = omega arith
shift_small false rows row k h l = omega arith

shift_more : (down : Bool) (row k : ℕ) → shift down (shift down row k) 1 ≡ shift down row (suc k)
shift_more true row k = omega arith
shift_more false row k = omega arith

shift_none : (down : Bool) (row : ℕ) → shift down row 0 ≡ row
shift_none true row = add-zero row
shift_none false row = omega arith

shift_rest : (down : Bool) (rows row k : ℕ) → suc k ≤ rows_beyond down rows row → 0 < rows_beyond down rows (shift down row k)
shift_rest true rows row k h = omega arith
shift_rest false rows row k h = omega arith

-- some rounds are the `left` rounds from row r
pub record Owes (folds : List ℕ) (rows : ℕ) (down : Bool) (whole r left : ℕ) : Type 0 where
  pub same : whole ≡ rounds (step_row folds rows down) left r
  pub inside : r < rows

module _ {folds : List ℕ} {rows : ℕ} {down : Bool} {row free : ℕ} (f : Free folds rows down row free) where
  -- k rounds over rows that no fold hides are k rows
  pub free_rounds : (k : ℕ) → k ≤ free → rounds (step_row folds rows down) k row ≡ shift down row k
  free_rounds zero h = rounds_none (step_row folds rows down) 0 row (omega arith) ∙ sym (shift_none down row)
  free_rounds (suc k) h =
      let one : suc k ≡ k + 1 = omega arith in
      let more = shift_more down row k in
      let step = toward_next folds rows down (shift down row k) (shift_rest down rows row k (omega (arith, f.within)))
      (rw more (f.shown (suc k) (omega arith) h)) in
      ap (λ (m : ℕ). rounds (step_row folds rows down) m row) one ∙
      rounds_add (step_row folds rows down) k 1 row ∙
      ap (rounds (step_row folds rows down) 1) (free_rounds k (omega arith)) ∙
      rounds_on (step_row folds rows down) 1 (shift down row k) (omega arith) ∙
      rounds_none (step_row folds rows down) 0 _ (omega arith) ∙
      ap (row_or (shift down row k)) step ∙
      more

  -- and then one more, or none
  module _ (left : ℕ) (h : free < left) where
    rest : rounds (step_row folds rows down) left row ≡ rounds (step_row folds rows down) (left - free) (shift down row free)
    rest =
        let all : left ≡ free + (left - free) = omega arith in
        ap (λ (m : ℕ). rounds (step_row folds rows down) m row) all ∙
        rounds_add (step_row folds rows down) free (left - free) row ∙
        ap (rounds (step_row folds rows down) (left - free)) (free_rounds free (omega arith))

    pub free_hop : (x : ℕ) → toward folds rows down (shift down row free) ≡ Some x →
        rounds (step_row folds rows down) left row ≡ rounds (step_row folds rows down) (left - free - 1) x
    free_hop x e = rest ∙ rounds_on (step_row folds rows down) (left - free) (shift down row free) (omega arith) ∙
        ap (rounds (step_row folds rows down) (left - free - 1)) (ap (row_or (shift down row free)) e)

    pub free_edge : toward folds rows down (shift down row free) ≡ None → rounds (step_row folds rows down) left row ≡ shift down row free
    free_edge e = rest ∙ rounds_still (step_row folds rows down) (left - free) (shift down row free) (ap (row_or (shift down row free)) e)

-- one row further in them
free_less : {folds : List ℕ} {rows : ℕ} (down : Bool) {row free : ℕ} → Free folds rows down row free → 0 < free →
    Free folds rows down (shift down row 1) (free - 1)
free_less {folds} {rows} true {row} {free} f h =
    record {
      within = omega (arith, f.within);
      shown = λ k p l.
          let sum_is : row + 1 + k ≡ row + (k + 1) = omega arith in
          rw sum_is (f.shown (k + 1) (omega arith) (omega arith));
    }
free_less {folds} {rows} false {row} {free} f h =
    record {
      within = omega (arith, f.within);
      shown = λ k p l.
          let difference_is : row - 1 - k ≡ row - (k + 1) = omega arith in
          rw difference_is (f.shown (k + 1) (omega arith) (omega arith));
    }

-- the hop by them, and past them
module _ {folds : List ℕ} {rows : ℕ} {down : Bool} {row free : ℕ} (f : Free folds rows down row free) where
  pub hop_free : (x : ℕ) → x ≡ shift down row 1 → 0 < free → HopTo folds rows down row (record { next = Some x; free = free - 1 })
  hop_free x e h =
      record {
        found = ap Some e ∙ sym (toward_next folds rows down row (omega (arith, f.within)) (f.shown 1 (omega arith) h));
        onward = λ y q. let x_is : x ≡ y = cc in rw (sym x_is ∙ e) (free_less down f h);
      }

pub hop_past : {folds : List ℕ} {rows : ℕ} {down : Bool} {row x : ℕ} (free : ℕ) → toward folds rows down row ≡ Some x → Free folds rows down x free →
    HopTo folds rows down row (record { next = Some x; free = free })
hop_past {folds} {rows} {down} {row} {x} free e f = record { found = sym e; onward = λ y q. let x_is : x ≡ y = cc in rw (sym x_is) f }

pub hop_none : {folds : List ℕ} {rows : ℕ} {down : Bool} {row : ℕ} → toward folds rows down row ≡ None →
    HopTo folds rows down row (record { next = None; free = 0 })
hop_none e = record { found = sym e; onward = λ y q. let never : ◌≡◌ {A = ℕ} 0 1 = cc in absurd (omega arith) }
