-- `end_of` meets its contract: a row ends before the separator that the next one starts behind, and the last one with the text. Assumes nothing.
use Rattle.lists.proofs.Kit.{arith}
use Rattle.text.proofs.Parts.{next_start_lem}
use Rattle.row_entries.proofs.Rows.{end_next, end_last}
use Rattle.row_entries.proofs.end_of.Goals as goal

pub overflow_sub-result : goal.overflow_sub-result
overflow_sub-result c =
    let required = c.requires in
    omega (arith, c.start_of.ensures, next_start_lem c.args.t.now c.args.row (omega (arith, required.held.all_rows, required.in_row)))

pub returns-then-row-rows : goal.returns-then-row-rows
returns-then-row-rows c =
    end_next c.requires.held c.requires.in_row c.if-row-rows.true c.start_of.ensures

pub returns : goal.returns
returns c =
    end_last c.requires.held c.requires.in_row (omega (arith, c.if-row-rows.false))
