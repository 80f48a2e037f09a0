-- `moving::kept` meets its contract: what the call answers and leaves is compared. Assumes nothing.
use Rattle.lists.proofs.Kit.{le-leb, lt-leb, eq-eqb, ne_eqb}
use Rattle.replay_verdicts.proofs.Comparing.{replied_compared, places_count}
use Rattle.replay_tables.specs.Motions.{kept_verdict}
use Rattle.replay_tables.proofs.Sizes.{six_sized}
use Rattle.replay_tables.proofs.moving.kept.Goals as goal

pub returns-then-width-gt65535 : goal.returns-then-width-gt65535
unfolding kept_verdict
returns-then-width-gt65535 c = rw (lt-leb _ 65535 c.if-width-gt65535.true)

pub returns-then-own-ne2 : goal.returns-then-own-ne2
unfolding kept_verdict
returns-then-own-ne2 c = rw (le-leb _ 65535 c.if-width-gt65535.false, ne_eqb _ 2 c.if-own-ne2.true)

pub slice_bounds-compared-end : goal.slice_bounds-compared-end
slice_bounds-compared-end c = places_count 6 c.screen_kept_rows-n.ensures (six_sized _ _)

pub returns : goal.returns
unfolding kept_verdict
returns c =
    rw (le-leb _ 65535 c.if-width-gt65535.false, eq-eqb _ 2 c.if-own-ne2.false)
    (replied_compared 6 _ c.screen_kept_rows-n.ensures c.compared.ensures)
