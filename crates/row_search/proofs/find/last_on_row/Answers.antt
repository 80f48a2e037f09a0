-- `row_search::find::last_on_row` meets its contract. The invariant of its loop: the last match before the column is the last of those left.
-- Assumes nothing.
use Rattle.lists.proofs.Kit.{sym, ◌∙◌, arith, eq-eqb, ne_eqb}
use Rattle.row_search.specs.Find.{is}
use Rattle.row_search.proofs.Nearest.{last_on, last_stop, last_end}
use Rattle.row_search.proofs.find.last_on_row.Goals as goal

pub returns-then-row-b : goal.returns-then-row-b
returns-then-row-b c =
    let given = c.args in
    let stop = last_stop (is given.row.now given.sought) _ c.loop-b-test.true (eq-eqb _ _ c.if-row-b.true) in
    sym (c.loop-b.invariant.rest ∙ stop)

pub loop-b-preserved : goal.loop-b-preserved
loop-b-preserved c =
    let given = c.args in
    let on = last_on (is given.row.now given.sought) _ c.loop-b-test.true (ne_eqb _ _ c.if-row-b.false) in
    record { within = omega arith; rest = c.loop-b.invariant.rest ∙ on }

pub returns : goal.returns
returns c =
    let given = c.args in
    sym (c.loop-b.invariant.rest ∙ last_end (is given.row.now given.sought) _ c.loop-b-test.false)
