-- `text_check::text_refusal` meets its contract. The invariant of its loop: what was found so far, or is still to be found, is what the text holds.
-- Assumes nothing.
use Rattle.lists.proofs.Kit.{sym, ◌∙◌, lt-ltb, eq-eqb, ne_eqb}
use Rattle.lists.proofs.Any.{finds_on, finds_end}
use Rattle.text_check.specs.Accept.{text_refusal}
use Rattle.text_check.proofs.Accepted.{each_its_own, by_passes}
use Rattle.text_check.proofs.text_refusal.Goals as goal

pub returns-then-t-gt1048576 : goal.returns-then-t-gt1048576
unfolding text_refusal
returns-then-t-gt1048576 c = rw (lt-ltb _ _ c.if-t-gt1048576.true)

pub loop-x-preserved : goal.loop-x-preserved
loop-x-preserved c =
    let more = c.loop-x-test.true in
    record {
      highs = finds_on c.loop-x.invariant.highs more;
      lows = rw (each_its_own c.loop-x.feed c.loop-x.next _ _) at (finds_on c.loop-x.invariant.lows more);
    }

pub returns-then-f-ne0 : goal.returns-then-f-ne0
returns-then-f-ne0 c =
    let text_now = c.args.t.now in
    let found = sym (finds_end c.loop-x.invariant.highs c.loop-x-test.false) in
    rw (by_passes text_now c.if-t-gt1048576.false _ (c.high_refusal-f.ensures ∙ rw found), ne_eqb _ 0 c.if-f-ne0.true)

pub returns-then-feed-next : goal.returns-then-feed-next
returns-then-feed-next c =
    let text_now = c.args.t.now in
    let done = c.loop-x-test.false in
    let found = sym (finds_end c.loop-x.invariant.highs done) in
    rw (
      by_passes text_now c.if-t-gt1048576.false _ (c.high_refusal-f.ensures ∙ rw found),
      eq-eqb _ 0 c.if-f-ne0.false,
      ← finds_end c.loop-x.invariant.lows done,
      c.if-feed-next.true,
    )

pub returns : goal.returns
returns c =
    let text_now = c.args.t.now in
    let done = c.loop-x-test.false in
    let found = sym (finds_end c.loop-x.invariant.highs done) in
    rw (
      by_passes text_now c.if-t-gt1048576.false _ (c.high_refusal-f.ensures ∙ rw found),
      eq-eqb _ 0 c.if-f-ne0.false,
      ← finds_end c.loop-x.invariant.lows done,
      c.if-feed-next.false,
    )
