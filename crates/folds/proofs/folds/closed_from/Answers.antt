-- `folds::folds::closed_from` meets its contract: the row after the first is hidden or not, and a next row shows or not.
-- Assumes nothing.
use Rattle.lists.proofs.Kit.{sym, ◌∙◌, arith}
use Rattle.folds.proofs.Past.{visible_within}
use Rattle.folds.proofs.folds.closed_from.Goals as goal

pub returns-then-not-is_row_hidden : goal.returns-then-not-is_row_hidden
returns-then-not-is_row_hidden c = rw (sym c.is_row_hidden.ensures ∙ c.if-not-is_row_hidden.true)

-- the next row that shows isn't row 0
pub overflow_sub-result : goal.overflow_sub-result
overflow_sub-result c =
    omega (arith, visible_within _ _ _ _ (sym c.next_visible_row.ensures ∙ c.in-Some.is))

pub returns-in-Some : goal.returns-in-Some
returns-in-Some c =
    rw (
      sym c.is_row_hidden.ensures ∙ c.if-not-is_row_hidden.false,
      ← c.next_visible_row.ensures,
      c.in-Some.is,
    )

pub returns-in-None : goal.returns-in-None
returns-in-None c =
    rw (
      sym c.is_row_hidden.ensures ∙ c.if-not-is_row_hidden.false,
      ← c.next_visible_row.ensures,
      c.in-None.is,
    )
