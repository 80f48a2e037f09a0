-- `tallies::row_verdict` meets its contract, by what the row holds. Assumes nothing.
use Rattle.lists.proofs.Kit.{sym, length-take-le}
use Rattle.replay.proofs.Counting.{count_within, judged_count, judged_malformed}
use Rattle.replay.proofs.tallies.row_verdict.Goals as goal

pub slice_bounds-verdict_of-end : goal.slice_bounds-verdict_of-end
slice_bounds-verdict_of-end c =
    count_within c.read_row.ensures _ c.in-Some.is

pub slice_bounds-verdict_of-end-in-Some : goal.slice_bounds-verdict_of-end-in-Some
slice_bounds-verdict_of-end-in-Some c =
    sym (length-take-le _ _ (count_within c.read_row.ensures _ c.in-Some.is))

pub returns-in-Some : goal.returns-in-Some
returns-in-Some c =
    judged_count c.read_row.ensures _ c.in-Some.is c.verdict_of.ensures

pub returns-in-None : goal.returns-in-None
returns-in-None c = judged_malformed c.read_row.ensures c.in-None.is
