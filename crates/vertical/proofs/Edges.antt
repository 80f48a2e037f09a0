-- A viewport motion leads to a row of the text. Assumes nothing.
use Rattle.lists.proofs.Kit.{List, ℕ, ◌<◌, arith}
use Rattle.text.specs.Text.{row_count}
use Rattle.text.proofs.Content.{content_near}
use Rattle.vertical.specs.declared.Edge.{Edge}
use Rattle.vertical.specs.declared.Edge.TheVariants.{Top, Middle, Bottom}
use Rattle.vertical.specs.Viewport.{viewport_row}

pub viewport_within : (t : List ℕ) (edge : Edge) (top height offset : ℕ) → viewport_row edge t top height offset < row_count t
viewport_within t Top top height offset = omega (arith, content_near t)
viewport_within t Middle top height offset = omega (arith, content_near t)
viewport_within t Bottom top height offset = omega (arith, content_near t)
