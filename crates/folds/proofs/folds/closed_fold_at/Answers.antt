-- `folds::folds::closed_fold_at` meets its contract: the row shows, or the row that shows before it is the fold's first.
-- Assumes nothing.
use Rattle.lists.proofs.Kit.{sym, ◌∙◌, arith}
use Rattle.folds.proofs.Past.{prev_within}
use Rattle.folds.proofs.folds.closed_fold_at.Goals as goal

pub returns-then-not-is_row_hidden : goal.returns-then-not-is_row_hidden
returns-then-not-is_row_hidden c = rw (sym c.is_row_hidden.ensures ∙ c.if-not-is_row_hidden.true) c.closed_from.ensures

pub closed_from-requires-in-Some : goal.closed_from-requires-in-Some
closed_from-requires-in-Some c = (
  c.requires.0,
  omega (arith, prev_within _ _ _ (sym c.prev_visible_row.ensures ∙ c.in-Some.is), c.requires.1),
  c.requires.2,
)

pub returns-in-Some : goal.returns-in-Some
returns-in-Some c =
    rw (
      sym c.is_row_hidden.ensures ∙ c.if-not-is_row_hidden.false,
      ← c.prev_visible_row.ensures,
      c.in-Some.is,
    ) c.closed_from-in-Some.ensures

pub returns-in-None : goal.returns-in-None
returns-in-None c =
    rw (
      sym c.is_row_hidden.ensures ∙ c.if-not-is_row_hidden.false,
      ← c.prev_visible_row.ensures,
      c.in-None.is,
    )
