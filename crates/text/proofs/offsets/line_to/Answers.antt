-- `text::offsets::line_to` meets its contract: up to the row, or down to it. Assumes nothing.
use Rattle.lists.proofs.Kit.{ap, ◌∙◌, arith}
use Rattle.text.specs.Offsets.{line_at}
use Rattle.text.proofs.offsets.line_to.Goals as goal

pub returns-then-to-row : goal.returns-then-to-row
returns-then-to-row c = c.up.ensures ∙ ap (line_at c.args.t.now) (omega (arith, c.if-to-row.true))

pub returns : goal.returns
returns c = c.below.ensures.there c.requires.1
