-- `text::offsets::down` meets its contract: a row is 0 rows below itself. Assumes nothing.
use Rattle.lists.proofs.Kit.{arith}
use Rattle.text.proofs.Parts.{count_le}
use Rattle.text.proofs.Stands.{line_eq}
use Rattle.text.proofs.offsets.down.Goals as goal

pub returns-then-n-eq0 : goal.returns-then-n-eq0
returns-then-n-eq0 c =
    line_eq c.args.t.now c.requires.0.begins (omega (arith, c.if-n-eq0.true))

pub overflow_add-from : goal.overflow_add-from
overflow_add-from c =
    omega (arith, c.requires.1, count_le c.args.t.now)

pub returns : goal.returns
returns c = c.below.ensures.there c.requires.1
