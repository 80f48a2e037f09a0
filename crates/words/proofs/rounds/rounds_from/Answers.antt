-- `words::rounds::rounds_from` meets its contract. The invariant of its loop: the rounds left from `cur` on come to where all of them come, and
-- there is no closed fold at the rows of the stretch. Assumes nothing.
use Rattle.lists.proofs.Kit.{arith}
use Rattle.word_rounds.proofs.Turning.{set_at}
use Rattle.words.proofs.Counting.{counting_start, counting_none, counting_on, counting_still, counting_off}
use Rattle.words.proofs.rounds.rounds_from.Goals as goal

pub loop-init : goal.loop-init
loop-init c =
    counting_start c.requires.round.folded.spot c.requires.bare

pub near-w-requires : goal.near-w-requires
near-w-requires c = c.loop.invariant.bare

pub round_near-requires : goal.round_near-requires
round_near-requires c =
    record { round = set_at c.requires.round _ c.loop.invariant.spot; bare = c.near-w.ensures }

-- the round came to where it began
pub returns-then-q-cur : goal.returns-then-q-cur
returns-then-q-cur c =
    record {
      lands = counting_still c.loop.invariant c.round_near.ensures c.in-On.is c.if-q-cur.true;
      bare = c.near-w.ensures;
    }

pub loop-preserved : goal.loop-preserved
loop-preserved c =
    counting_on c.loop.invariant c.round_near.ensures c.in-On.is (omega (arith, c.loop-test.true))
    c.near-w.ensures

pub returns-in-Off : goal.returns-in-Off
returns-in-Off c =
    record {
      lands = counting_off c.loop.invariant c.round_near.ensures c.in-Off.is (omega (arith, c.loop-test.true));
      bare = c.near-w.ensures;
    }

pub returns : goal.returns
returns c =
    let so_far = c.loop.invariant in
    record { lands = counting_none so_far (omega (arith, c.loop-test.false)); bare = so_far.bare }
