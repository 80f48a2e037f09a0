-- `put::put_zeros` meets its contract. The invariant of its loop: the first k zeros are written. The measure is their number less k.
-- Assumes nothing.
use Rattle.lists.proofs.Kit.{◌-◌, arith}
use Rattle.edit_places.proofs.Puts.{up_none, up_next, up_all, length_zeros, zeros_read}
use Rattle.edit_places.proofs.put.put_zeros.Goals as goal

pub loop-k-init : goal.loop-k-init
loop-k-init c = record { within = omega arith; up = up_none _ _ _ (simp length_zeros c.requires) }

pub loop-k-preserved : goal.loop-k-preserved
loop-k-preserved c =
    let at_loop = c.loop-k in
    let given_n = c.args.n in
    record {
      within = omega arith;
      up = up_next (at_loop.invariant).up (simp length_zeros c.loop-k-test.true) (zeros_read given_n at_loop.k c.loop-k-test.true);
    }

pub returns : goal.returns
returns c = up_all c.loop-k.invariant.up (simp length_zeros c.loop-k-test.false)
