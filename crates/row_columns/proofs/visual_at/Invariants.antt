-- `row_columns::visual_at` meets its contract. The invariant of its loop: `visual` is the visual column of character i, and i has not passed `col`.
-- Assumes nothing.
use Rattle.lists.proofs.Kit.{List, ℕ, ◌≤◌}
use Rattle.chars.specs.Width.{width_with}
use Rattle.row_columns.proofs.Visual.{VisualTo}
use Rattle.row_columns.proofs.visual_at.Given as goal

pub record Walked (w : ℕ → ℕ) (tab : ℕ) (row : List ℕ) (col i visual : ℕ) : Type 0 where
  pub so_far : VisualTo w tab row i visual
  pub before : i ≤ col

abbrev pub invariant-loop-i : goal.invariant-loop-i
invariant-loop-i l = Walked (width_with l.by) l.tab l.row l.col l.i l.visual
