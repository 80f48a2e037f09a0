-- Where each move to another row leads from a position in the text is a position of the text: a row of it, and at most the row's character count.
-- Assumes nothing.
use Rattle.lists.proofs.Kit.{List, Bool, true, false, cond, ℕ, zero, suc, ◌+◌, ◌-◌, ◌≤◌, ◌<◌, min, max, arith, eqb, Option, Some, None}
use Rattle.text.specs.declared.Line.{Line}
use Rattle.text.specs.Text.{row_count, row_len, content_rows}
use Rattle.text.proofs.Content.{content_near}
use Rattle.margins.specs.Margins.{first_non_blank}
use Rattle.row_walks.specs.Sections.{begins, section_up, section_down}
use Rattle.row_walks.specs.Paragraphs.{LeadsIn}
use Rattle.text.specs.declared.Position.{Position}
use Rattle.positions.specs.Positions.{Inside}
use Rattle.steps.proofs.Staying.{position_in}
use Rattle.text_moves.specs.Rows.{at_row}
use Rattle.text_moves.specs.Sections.{section_back, section_on}
use Rattle.text_moves.specs.Paragraphs.{up_at, down_at}

-- rows
module _ (t : List ℕ) where
  pub row_in : (r : ℕ) → r < row_count t → Inside t (at_row t r)
  row_in r h = position_in t r (first_non_blank t r) h (omega arith)

  pub content_in : (r : ℕ) → Inside t (at_row t (min r (content_rows t - 1)))
  content_in r = row_in (min r (content_rows t - 1)) (omega (arith, content_near t))

  pub bottom_in : (n : ℕ) (b : Bool) → Inside t (at_row t (cond b (content_rows t - 1) (min (n - 1) (content_rows t - 1))))
  bottom_in n true = row_in (content_rows t - 1) (omega (arith, content_near t))
  bottom_in n false = content_in (n - 1)

-- sections
up_in : (t : List ℕ) (x n row : ℕ) → section_up t x n row ≤ row
unfolding section_up
up_in t x zero zero = omega arith
up_in t x (suc n) zero = omega arith
up_in t x zero (suc row) = omega arith
up_in t x (suc n) (suc row) = omega (arith, up_in t x (cond (begins t x row) n (suc n)) row)

down_in : (t : List ℕ) (x n row rest : ℕ) → section_down t x n row rest ≤ row + rest
unfolding section_down
down_in t x zero row zero = omega arith
down_in t x (suc n) row zero = omega arith
down_in t x zero row (suc rest) = omega arith
down_in t x (suc n) row (suc rest) = omega (arith, down_in t x (cond (begins t x (row + 1)) n (suc n)) (row + 1) rest)

module _ (t : List ℕ) (p : Position) (i : Inside t p) where
  pub back_in : (x n : ℕ) → Inside t (section_back t x n p)
  back_in x n = position_in t _ 0 (omega (arith, up_in t x (max n 1) p.row, i.in_row)) (omega arith)

  pub on_in : (x n : ℕ) → Inside t (section_on t x n p)
  on_in x n = position_in t _ 0 (omega (arith, down_in t x (max n 1) p.row (content_rows t - 1 - p.row), i.in_row, content_near t)) (omega arith)

  -- paragraphs
  pub up_at_in : (r : Option Line) → LeadsIn t r → Inside t (up_at p r)
  up_at_in (Some l) h = position_in t l.row 0 h.in_row (omega arith)
  up_at_in None h = i

  side : (r : ℕ) (b : Bool) → cond b (row_len t r - 1) 0 ≤ row_len t r
  side r true = omega arith
  side r false = omega arith

  pub down_at_in : (r : Option Line) → LeadsIn t r → Inside t (down_at t p r)
  down_at_in (Some l) h = position_in t l.row _ h.in_row (side l.row (eqb l.row (content_rows t - 1)))
  down_at_in None h = i
