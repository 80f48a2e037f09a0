-- `filling::fill` meets its contract: the test of the definition, and the table that is lent. Assumes nothing.
use Rattle.lists.proofs.Kit.{sym, arith, length-take-le, le-leb, lt-leb}
use Rattle.replay_edits.proofs.Comparing.{lent_front}
use Rattle.replay_tables.specs.Tables.{fill_verdict}
use Rattle.replay_tables.proofs.filling.fill.Goals as goal

pub returns-then-n-gt64 : goal.returns-then-n-gt64
unfolding fill_verdict
returns-then-n-gt64 c = rw (lt-leb _ 64 c.if-n-gt64.true)

pub slice_bounds-fill_into-end : goal.slice_bounds-fill_into-end
slice_bounds-fill_into-end c =
    sym (length-take-le _ _ (omega (arith, c.put_all.ensures.size, c.if-n-gt64.false)))

pub returns : goal.returns
unfolding fill_verdict
returns c =
    let table_fits = c.if-n-gt64.false in
    rw (le-leb _ 64 table_fits) (rw (lent_front c.put_all.ensures table_fits) at c.fill_into.ensures)
