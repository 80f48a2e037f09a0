-- `ranges_of` meets its contract: the position after each bracket is that of `next`. Assumes nothing.
use Rattle.bracket_inner.proofs.around.ranges_of.Goals as goal

pub returns : goal.returns
returns c =
    let given = c.args in
    λ i. record { opening = given.p; from = c.next-from.ensures i; to = given.q; past = c.next-past.ensures i }
