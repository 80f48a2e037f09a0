-- `row_search::find::next_on_row` meets its contract. The invariant of its loop: the first match from the column on is the first from i on.
-- Assumes nothing.
use Rattle.lists.proofs.Kit.{sym, ◌∙◌, arith, eq-eqb, ne_eqb}
use Rattle.row_search.specs.Find.{is}
use Rattle.row_search.proofs.Nearest.{first_on, first_stop, first_end}
use Rattle.row_search.proofs.find.next_on_row.Goals as goal

pub returns-then-row-i : goal.returns-then-row-i
returns-then-row-i c =
    let given = c.args in
    sym (c.loop-i.invariant
    ∙ first_stop (is given.row.now given.sought) _ _ (omega (arith, c.loop-i-test.true)) (eq-eqb _ _ c.if-row-i.true))

pub loop-i-preserved : goal.loop-i-preserved
loop-i-preserved c =
    let given = c.args in
    c.loop-i.invariant
    ∙ first_on (is given.row.now given.sought) _ _ (omega (arith, c.loop-i-test.true)) (ne_eqb _ _ c.if-row-i.false)

pub returns : goal.returns
returns c =
    let given = c.args in
    sym (c.loop-i.invariant ∙ first_end (is given.row.now given.sought) _ _ c.loop-i-test.false)
