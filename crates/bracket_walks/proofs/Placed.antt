-- Laws of a place as a row and a column: an offset that a walk has found.
-- Assumes nothing.
use Rattle.lists.proofs.Kit.{◌≡◌, ◌∙◌, ap, List, ℕ, ◌-◌, arith, Option, Some, None}
use Rattle.text.specs.Offsets.{row_start, Stands, line_at}
use Rattle.text.specs.declared.Line.{Line}
use Rattle.text.proofs.Stands.{stands_row, stands_at_lem, at_stands}
use Rattle.bracket_walks.specs.declared.Partner.TheVariants.{There, None as Partner-as-None}
use Rattle.bracket_walks.specs.Matching.{placed}

pub placed_at : {t : List ℕ} {row start j : ℕ} {r : Option ℕ} → Stands t row start j → r ≡ Some j → There (record { row = row; col = j - start }) ≡ placed t r
unfolding placed
placed_at s e = rw (e, stands_row s, ← s.begins)

pub placed_none : (t : List ℕ) {r : Option ℕ} → r ≡ None → Partner-as-None ≡ placed t r
unfolding placed
placed_none t e = rw e

-- an offset with the start of its row as `up` finds it
pub stands_up : {t : List ℕ} {row at : ℕ} {l : Line} → Stands t row (row_start t row) at → l ≡ line_at t (row - 0) → Stands t row l.start at
stands_up {t} {row} {at} {l} s e =
    let row_less_zero : row - 0 ≡ row = omega arith in
    at_stands (stands_at_lem s) l.start (ap (λ (x : Line). x.start) e ∙ ap (row_start t) row_less_zero)
