-- Where characters on or back lead from a position in the text is a position of the text: a row of it, and at most the row's character count.
-- Assumes nothing.
use Rattle.lists.proofs.Kit.{◌≡◌, refl, List, Bool, true, false, cond, ℕ, ◌+◌, ◌-◌, ◌≤◌, ◌<◌, ◌^◌, arith, length, ltb, ltb-true}
use Rattle.text.specs.Text.{row_count, row_len, position}
use Rattle.text.proofs.Parts.{count_le, row_fits}
use Rattle.text.specs.declared.Position.{Position}
use Rattle.positions.specs.declared.Entry.{Entry}
use Rattle.positions.specs.Positions.{Accepted, Inside}
use Rattle.steps.specs.Steps.{space_fwd, backspace_back}

-- an accepted position, and the numbers of any in its text
pub accepted_in : {t : List ℕ} {p : Position} {e : Entry} → Accepted t p e → Inside t p
accepted_in h = record { in_row = h.here.in_row; in_col = omega (arith, h.here.in_col) }

pub inside_fits : {t : List ℕ} {p : Position} → length t ≤ 1048576 → Inside t p → (p.row < 2 ^ 32) × (p.col < 2 ^ 32)
inside_fits {t} {p} b i = (omega (arith, b, i.in_row, count_le t), omega (arith, b, i.in_col, row_fits t p.row i.in_row))

-- a choice of two positions
pub either_in : (t : List ℕ) (b : Bool) (p q : Position) → Inside t p → Inside t q → Inside t (cond b p q)
either_in t true p q h l = h
either_in t false p q h l = l

pub position_in : (t : List ℕ) (r c : ℕ) → r < row_count t → c ≤ row_len t r → Inside t (position r c)
position_in t r c h l = record { in_row = h; in_col = l }

module _ (t : List ℕ) (p : Position) (i : Inside t p) where
  pub space_in : Inside t (space_fwd t p)
  unfolding space_fwd
  space_in = go (ltb p.col (row_len t p.row - 1)) (ltb (p.row + 1) (row_count t)) refl refl
    where
      go : (a b : Bool) → ltb p.col (row_len t p.row - 1) ≡ a → ltb (p.row + 1) (row_count t) ≡ b →
          Inside t (cond a (position p.row (p.col + 1)) (cond b (position (p.row + 1) 0) p))
      go true b e f = position_in t p.row (p.col + 1) i.in_row (omega (arith, ltb-true p.col (row_len t p.row - 1) e))
      go false true e f = position_in t (p.row + 1) 0 (ltb-true (p.row + 1) (row_count t) f) (omega arith)
      go false false e f = i

  pub backspace_in : Inside t (backspace_back t p)
  unfolding backspace_back
  backspace_in = either_in t (ltb 0 p.col) _ _ (position_in t p.row (p.col - 1) i.in_row (omega (arith, i.in_col)))
      (either_in t (ltb 0 p.row) _ _ (position_in t (p.row - 1) (row_len t (p.row - 1) - 1) (omega (arith, i.in_row)) (omega arith)) i)
