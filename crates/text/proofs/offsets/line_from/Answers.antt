-- `text::offsets::line_from` meets its contract, whichever way it goes. Assumes nothing.
use Rattle.lists.proofs.Kit.{ap, ◌∙◌, arith}
use Rattle.text.specs.Offsets.{line_at}
use Rattle.text.proofs.Stands.{first_line, last_stands}
use Rattle.text.proofs.offsets.line_from.Goals as goal

-- down from where it stands
pub returns-then-to-from : goal.returns-then-to-from
returns-then-to-from c =
    c.down.ensures ∙ ap (line_at c.args.t.now) (omega (arith, c.if-from-to.true))

-- up from the end of the text
pub up-requires : goal.up-requires
up-requires c =
    rw c.requires.1 (last_stands c.args.t.now)

pub returns-then-from-to : goal.returns-then-from-to
returns-then-from-to c =
    c.up.ensures ∙ ap (line_at c.args.t.now) (omega (arith, c.requires.2))

-- up from where it stands
pub returns-then-from-to-2 : goal.returns-then-from-to-2
returns-then-from-to-2 c =
    c.up-then-from-to-2.ensures ∙ ap (line_at c.args.t.now) (omega (arith, c.if-from-to.false))

-- down from the top
pub down-requires-2 : goal.down-requires-2
down-requires-2 c =
    (first_line c.args.t.now, omega (arith, c.requires.1, c.requires.2))

pub returns : goal.returns
returns c =
    c.down-2.ensures ∙ ap (line_at c.args.t.now) (omega arith)
