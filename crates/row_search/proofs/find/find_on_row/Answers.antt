-- `row_search::find::find_on_row` meets its contract: it lands on the match, or one place short of it. Assumes nothing.
use Rattle.lists.proofs.Kit.{arith}
use Rattle.row_search.proofs.Finds.{match_inside, match_past, find_onto, find_nowhere}
use Rattle.row_search.proofs.find.find_on_row.Goals as goal

pub overflow_sub-result : goal.overflow_sub-result
overflow_sub-result c =
    let given = c.args in
    match_past given.row.now given.col given.sought given.forward given.till given.skip c.nearest-f.ensures
    c.if-forward.true c.in-Some.is

-- a till to the right
pub returns-then-forward : goal.returns-then-forward
returns-then-forward c =
    let given = c.args in
    find_onto given.row.now given.col given.sought given.forward given.till given.skip c.nearest-f.ensures
    c.in-Some.is (rw (c.if-till.true, c.if-forward.true))

pub overflow_add-result : goal.overflow_add-result
overflow_add-result c =
    let given = c.args in
    let by_match_inside = match_inside given.row.now given.col given.sought given.forward given.till given.skip
    c.nearest-f.ensures c.requires c.in-Some.is in
    omega (arith, by_match_inside)

-- a till to the left
pub returns-then-till : goal.returns-then-till
returns-then-till c =
    let given = c.args in
    find_onto given.row.now given.col given.sought given.forward given.till given.skip c.nearest-f.ensures
    c.in-Some.is (rw (c.if-till.true, c.if-forward.false))

-- the match itself
pub returns-else-till : goal.returns-else-till
returns-else-till c =
    let given = c.args in
    find_onto given.row.now given.col given.sought given.forward given.till given.skip c.nearest-f.ensures
    c.in-Some.is (rw c.if-till.false)

pub returns-in-None : goal.returns-in-None
returns-in-None c =
    let given = c.args in
    find_nowhere given.row.now given.col given.sought given.forward given.till given.skip c.nearest-f.ensures
    c.in-None.is
