-- `decoder::write` meets its contract. The invariant of its loop: the code points before i are written. The measure is the length less i.
-- Assumes nothing.
use Rattle.lists.proofs.Kit.{sym, ◌∙◌, arith, not-true}
use Rattle.utf8.proofs.Written.{going_start, going_then, going_end}
use Rattle.utf8.proofs.Answers.{written_in_lem}
use Rattle.utf8.proofs.decoder.write.Goals as goal

pub loop-i-init : goal.loop-i-init
loop-i-init c = going_start c.requires

-- a stretch of ASCII
pub widen_on-s-requires : goal.widen_on-s-requires
widen_on-s-requires c =
    record {
      written = record { holds = c.loop-i.invariant.holds; inside = c.stretch-until.ensures.inside };
      ascii = not-true _ (sym c.plain.ensures ∙ c.if-plain.true);
    }

pub loop-i-smaller-then-plain : goal.loop-i-smaller-then-plain
loop-i-smaller-then-plain c =
    omega (arith, c.widen_on-s.ensures.reached, c.stretch-until.ensures.onward)

pub loop-i-preserved-then-plain : goal.loop-i-preserved-then-plain
loop-i-preserved-then-plain c =
    going_then c.loop-i.invariant c.widen_on-s.ensures

-- any other
pub write_on-s-requires : goal.write_on-s-requires
write_on-s-requires c =
    record { holds = c.loop-i.invariant.holds; inside = c.stretch-until.ensures.inside }

pub loop-i-smaller : goal.loop-i-smaller
loop-i-smaller c =
    omega (arith, c.write_on-s.ensures.reached, c.stretch-until.ensures.onward)

pub loop-i-preserved : goal.loop-i-preserved
loop-i-preserved c =
    going_then c.loop-i.invariant c.write_on-s.ensures

-- all are written
pub returns : goal.returns
returns c = written_in_lem _ _ c.requires _ (going_end c.loop-i.invariant c.loop-i-test.false)

pub shape_of-points : goal.shape_of-points
shape_of-points c = c.loop-i.invariant.size
