-- `text::offsets::below` meets its contract. The invariant of its loop: i stands in row r, which lies above row `to`. The measure is the
-- text's length less i. Assumes nothing.
use Rattle.lists.proofs.Kit.{arith}
use Rattle.text.proofs.Stretches.{pass_on}
use Rattle.text.proofs.offsets.below.Goals as goal

pub loop-i-preserved : goal.loop-i-preserved
loop-i-preserved c =
    let invariant = c.loop-i.invariant in
    record {
      stands = pass_on c.args.t.now invariant.stands c.separators-s.result _ (omega arith) (omega arith)
          c.separators-s.ensures.count;
      above = omega arith;
    }
