-- `enter_by` meets its contract: the checks of a position, by the table. Assumes nothing.
use Rattle.lists.proofs.Kit.{arith}
use Rattle.positions.specs.Positions.{refusal_at}
use Rattle.positions.proofs.Checks.{refusal_row_lem, refusal_col, refusal_none, by_refused, by_none}
use Rattle.row_entries.proofs.enter_by.Goals as goal

-- the text has no such row
pub returns-then-p-rows : goal.returns-then-p-rows
returns-then-p-rows c =
    let given = c.args in
    by_refused given.t.now given.p _ _ _ c.refused.ensures
    (refusal_row_lem given.t.now given.p c.requires.good (omega (arith, c.if-p-rows.true, c.requires.all_rows))) (λ z. absurd
    (omega (arith, z)))

-- the row has no such column
pub returns-then-p-end : goal.returns-then-p-end
returns-then-p-end c =
    let given = c.args in
    by_refused given.t.now given.p _ _ _ c.refused-then-p-end.ensures
    (refusal_col given.t.now given.p c.requires.good (omega (arith, c.if-p-rows.false, c.requires.all_rows))
    (omega (arith, c.if-p-end.true, c.end_of-end.ensures, c.start_of-start.ensures))) (λ z. absurd (omega (arith, z)))

pub returns : goal.returns
returns c =
    let given = c.args in
    by_none given.t.now given.p (refusal_at given.t.now given.p) _
    (λ i. record { refusal = 0; start = c.start_of-start.ensures i; rows = c.requires.all_rows i; content = c.requires.count i })
    (refusal_none given.t.now given.p c.requires.good (omega (arith, c.if-p-rows.false, c.requires.all_rows))
    (omega (arith, c.if-p-end.false, c.end_of-end.ensures, c.start_of-start.ensures)))
