-- `text_check::high_refusal` meets its contract. The invariant of its loop: what was found so far, or is still to be found, is what the text holds.
-- Assumes nothing.
use Rattle.lists.proofs.Any.{finds_on, finds_end}
use Rattle.text_check.specs.Accept.{high_refusal}
use Rattle.text_check.proofs.high_refusal.Goals as goal

pub returns-then-not-high : goal.returns-then-not-high
returns-then-not-high c = rw (c.if-not-high.true)

pub loop-x-preserved : goal.loop-x-preserved
loop-x-preserved c =
    let more = c.loop-x-test.true in
    record { wrongs = finds_on c.loop-x.invariant.wrongs more; separators = finds_on c.loop-x.invariant.separators more }

pub returns-then-wrong : goal.returns-then-wrong
unfolding high_refusal
returns-then-wrong c =
    rw (
      c.if-not-high.false,
      ← finds_end c.loop-x.invariant.wrongs c.loop-x-test.false,
      c.if-wrong.true,
    )

pub returns-then-separator : goal.returns-then-separator
unfolding high_refusal
returns-then-separator c =
    let done = c.loop-x-test.false in
    rw (
      c.if-not-high.false,
      ← finds_end c.loop-x.invariant.wrongs done,
      c.if-wrong.false,
      ← finds_end c.loop-x.invariant.separators done,
      c.if-separator.true,
    )

pub returns : goal.returns
unfolding high_refusal
returns c =
    let done = c.loop-x-test.false in
    rw (
      c.if-not-high.false,
      ← finds_end c.loop-x.invariant.wrongs done,
      c.if-wrong.false,
      ← finds_end c.loop-x.invariant.separators done,
      c.if-separator.false,
    )
