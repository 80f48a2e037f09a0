-- `follow` meets its contract: the tests of the definition in their order. Assumes nothing.
use Rattle.lists.proofs.Kit.{ap, ◌∙◌, arith}
use Rattle.motions.specs.declared.Moved.TheVariants.{To}
use Rattle.edit_others.proofs.Near.{from_row_far, from_col_far, row_far, col_far, near_fits, follows}
use Rattle.edit_others.proofs.follow.Goals as goal

pub returns-then-from-gt4294967295 : goal.returns-then-from-gt4294967295
returns-then-from-gt4294967295 c =
    let given = c.args in from_row_far given.k given.c c.if-from-gt4294967295.true

pub returns-then-from-gt4294967295-2 : goal.returns-then-from-gt4294967295-2
returns-then-from-gt4294967295-2 c =
    let given = c.args in from_col_far given.k given.c c.if-from-gt4294967295.false c.if-from-gt4294967295-2.true

pub returns-then-end-k : goal.returns-then-end-k
returns-then-end-k c =
    let given = c.args in
    row_far given.k given.c c.if-from-gt4294967295.false c.if-from-gt4294967295-2.false (omega (arith, c.if-end-k.true))

pub returns-then-end-k-2 : goal.returns-then-end-k-2
returns-then-end-k-2 c =
    let given = c.args in
    col_far given.k given.c c.if-from-gt4294967295.false c.if-from-gt4294967295-2.false (omega (arith, c.if-end-k.false)) (omega (arith, c.if-end-k-2.true))

pub returns : goal.returns
returns c =
    let given = c.args in
    let fits = near_fits given.k given.c c.if-from-gt4294967295.false c.if-from-gt4294967295-2.false (omega (arith, c.if-end-k.false)) (omega (arith, c.if-end-k-2.false)) in
    ap To c.corrected.ensures ∙ follows given.k given.c fits
