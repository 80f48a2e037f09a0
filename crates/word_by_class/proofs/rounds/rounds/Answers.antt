-- `word_by_class::rounds::rounds` meets its contract. The invariant of its loop: the rounds left from `cur` on come to where all of
-- them come, and there is no closed fold at the rows of the stretch. Assumes nothing.
use Rattle.lists.proofs.Kit.{refl, sym, ◌∙◌, arith}
use Rattle.word_by_class.proofs.Counting.{counting_none, counting_on, counting_still, counting_off}
use Rattle.word_by_class.proofs.Counts.{counted_all}
use Rattle.word_by_class.proofs.Fits.{on_in}
use Rattle.word_by_class.proofs.rounds.rounds.Goals as goal

pub loop-init : goal.loop-init
loop-init c = record { ready = c.requires; rest = counted_all _ c.args.count c.args.p.at; bare = c.around-w.ensures }

pub near-w-requires : goal.near-w-requires
near-w-requires c = c.loop.invariant.bare

pub round_near-requires : goal.round_near-requires
round_near-requires c = record { ready = c.loop.invariant.ready; bare = c.near-w.ensures }

-- the round came to where it began
pub returns-then-j-cur : goal.returns-then-j-cur
returns-then-j-cur c =
    counting_still c.loop.invariant (sym c.round_near.ensures ∙ c.in-On.is) c.if-j-cur.true

pub moved-cur-requires : goal.moved-cur-requires
moved-cur-requires c =
    let ready = c.loop.invariant.ready in
    record {
      stands = ready.stands;
      within = omega (arith, on_in ready.classes _ _ ready.inside _ _ _ _ (sym c.round_near.ensures ∙ c.in-On.is));
    }

pub loop-preserved : goal.loop-preserved
loop-preserved c =
    let so_far = c.loop.invariant in
    let found = sym c.round_near.ensures ∙ c.in-On.is in
    counting_on so_far found (omega (arith, c.loop-test.true)) (on_in so_far.ready.classes _ _ so_far.ready.inside _ _ _ _ found)
    c.moved-cur.ensures c.near-w.ensures

-- no word was found
pub returns-in-Off : goal.returns-in-Off
returns-in-Off c =
    counting_off c.loop.invariant (sym c.round_near.ensures ∙ c.in-Off.is) (omega (arith, c.loop-test.true))

pub returns : goal.returns
returns c = counting_none c.loop.invariant (omega (arith, c.loop-test.false))
