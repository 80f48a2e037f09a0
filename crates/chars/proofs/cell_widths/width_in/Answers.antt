-- `chars::width_in` meets its contract: what lies before the doubles by what is required of the zeros, the rest by searching both. Assumes nothing.
use Rattle.lists.proofs.Kit.{◌∙◌, sym}
use Rattle.chars.specs.Width.{width_by}
use Rattle.chars.proofs.Before.{before_low}
use Rattle.chars.proofs.cell_widths.width_in.Goals as goal

pub returns-then-x-is_before : goal.returns-then-x-is_before
returns-then-x-is_before c =
    c.low_width.ensures ∙ before_low c.args.x c.requires c.is_before.ensures c.if-x-is_before.true

pub returns-then-in_table : goal.returns-then-in_table
unfolding width_by
returns-then-in_table c = rw (sym c.in_table.ensures ∙ c.if-in_table.true)

pub returns-then-in_table-2 : goal.returns-then-in_table-2
unfolding width_by
returns-then-in_table-2 c =
    let zero = sym c.in_table.ensures ∙ c.if-in_table.false in
    rw (zero, sym c.in_table-2.ensures ∙ c.if-in_table-2.true)

pub returns : goal.returns
unfolding width_by
returns c =
    let zero = sym c.in_table.ensures ∙ c.if-in_table.false in
    rw (zero, sym c.in_table-2.ensures ∙ c.if-in_table-2.false)
