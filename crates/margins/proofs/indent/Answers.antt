-- `margins::indent` meets its contract. The invariant of its loop: everything before i is blank. Assumes nothing.
use Rattle.lists.proofs.Kit.{sym, ◌∙◌, arith}
use Rattle.margins.proofs.Edging.{indent_on, indent_stop, indent_end}
use Rattle.margins.proofs.indent.Goals as goal

pub returns-then-not-is_blank : goal.returns-then-not-is_blank
returns-then-not-is_blank c =
    omega (
      arith,
      indent_stop c.args.row.now c.loop-i.i c.loop-i-test.true
          (sym c.is_blank.ensures ∙ c.if-not-is_blank.true),
    )

pub loop-i-preserved : goal.loop-i-preserved
loop-i-preserved c =
    omega (
      arith,
      indent_on c.args.row.now c.loop-i.i c.loop-i-test.true
          (sym c.is_blank.ensures ∙ c.if-not-is_blank.false),
    )

pub returns : goal.returns
returns c = omega (arith, indent_end c.args.row.now c.loop-i.i c.loop-i-test.false)
