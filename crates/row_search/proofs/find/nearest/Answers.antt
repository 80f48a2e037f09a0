-- `row_search::find::nearest` meets its contract.
-- Assumes nothing.
use Rattle.lists.proofs.Kit.{ap, ◌∙◌, ℕ, arith, length}
use Rattle.row_search.specs.Nearest.{first_in, last_below}
use Rattle.row_search.specs.Find.{is}
use Rattle.row_search.proofs.Finds.{back_within}
use Rattle.row_search.proofs.find.nearest.Goals as goal

pub returns-then-forward : goal.returns-then-forward
returns-then-forward c =
    let given = c.args in
    let row_now = given.row.now in
    rw c.if-forward.true
    (c.next_on_row.ensures ∙ ap (λ (i : ℕ). first_in (is row_now given.sought) i (length row_now)) c.start_ahead-from.ensures)

pub last_on_row-requires : goal.last_on_row-requires
last_on_row-requires c =
    let given = c.args in
    omega (arith, c.start_back-upto.ensures, back_within given.row.now given.col given.sought given.again)

pub returns : goal.returns
returns c =
    let given = c.args in
    rw c.if-forward.false (c.last_on_row.ensures ∙ ap (last_below (is given.row.now given.sought)) c.start_back-upto.ensures)
