-- `leaps::spot_of` meets its contract: the place's row starts where the table says. Assumes nothing.
use native.Mathlib.Omega.{arith}
use Rattle.text_check.proofs.Accepted.{accepted_short}
use Rattle.jumps.proofs.Spots.{spot_there, spot_lands}
use Rattle.jumps.proofs.leaps.spot_of.Goals as goal

pub start_of-start-requires : goal.start_of-start-requires
start_of-start-requires c =
    record { tabled = c.requires.tabled; in_row = c.requires.inside.in_row }

pub overflow_add-result : goal.overflow_add-result
overflow_add-result c =
    omega (
      arith,
      (spot_there c.args.t.now c.args.q c.requires.inside c.start_of-start.ensures).within,
      accepted_short c.args.t.now c.requires.clear,
    )

pub returns : goal.returns
returns c =
    spot_lands c.args.t.now c.args.q c.requires.inside c.start_of-start.ensures
