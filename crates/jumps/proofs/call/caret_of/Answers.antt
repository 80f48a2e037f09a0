-- `call::caret_of` meets its contract: the column is counted from where the table says that the row starts. Assumes nothing.
use Rattle.lists.proofs.Kit.{ap, ◌∙◌, ℕ, ◌-◌, arith}
use Rattle.motions.specs.Carets.{caret_at}
use Rattle.jumps.proofs.Spots.{spot_short}
use Rattle.jumps.proofs.call.caret_of.Goals as goal

pub start_of-start-requires : goal.start_of-start-requires
start_of-start-requires c =
    record { tabled = c.requires.tabled; in_row = c.requires.spot.in_row }

pub overflow_cast-r : goal.overflow_cast-r
overflow_cast-r c =
    omega (arith, (spot_short c.requires.clear c.requires.spot).0)

pub overflow_sub-r : goal.overflow_sub-r
overflow_sub-r c =
    omega (arith, c.start_of-start.ensures, c.requires.spot.from)

pub overflow_cast-r-2 : goal.overflow_cast-r-2
overflow_cast-r-2 c =
    omega (arith, (spot_short c.requires.clear c.requires.spot).1)

pub returns : goal.returns
returns c =
    let given = c.args in
    c.at.ensures ∙ ap (λ (x : ℕ). caret_at given.r.row (given.r.at - x) given.k.sticky) c.start_of-start.ensures
