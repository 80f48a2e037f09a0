-- `walks::space_fwd` meets its contract. The invariant of its loop: what is left of the rounds, from the place of the walk, leads where all of them do.
-- Assumes nothing.
use Rattle.lists.proofs.Kit.{refl, ◌∙◌, ◌+◌, ◌-◌, ◌<◌, max, arith}
use Rattle.text.specs.Text.{position}
use Rattle.text.proofs.Stands.{step_char, step_nl}
use Rattle.steps.specs.Steps.{space_fwd}
use Rattle.steps.proofs.Stepping.{going_start, going_on_lem, going_done, going_stop, going_from}
use Rattle.steps.proofs.Stepping.{space_end, space_nl, space_last, space_wrap, space_on}
use Rattle.steps.proofs.walks.space_fwd.Goals as goal
use Rattle.steps.proofs.walks.space_fwd.Goals.{then-t-at-eq10, else-t-at-eq10+else-next-t+then-t-next-eq10, else-t-at-eq10+else-next-t+else-t-next-eq10}

pub loop-init : goal.loop-init
loop-init c =
    let given = c.args in
    going_start (space_fwd given.t.now) (position given.p.row (given.e.start + given.p.col - given.e.start))
    (max given.count 1) _ _ c.requires.here (omega arith) c.requires.brief

-- at the end of the text
pub returns-then-at-t : goal.returns-then-at-t
returns-then-at-t c =
    let invariant = c.loop.invariant in
    going_stop invariant (space_end invariant.stands c.if-at-t.true) ∙
    going_from (space_fwd c.args.t.now) _ c.args.p
    c.args.e.start _ refl

-- on the last character of the text
pub returns-then-next-t : goal.returns-then-next-t
returns-then-next-t c =
    let invariant = c.loop.invariant in
    going_stop invariant (space_last invariant.stands c.if-at-t.false c.if-t-at-eq10.false c.if-next-t.true) ∙
    going_from (space_fwd c.args.t.now) _ c.args.p
    c.args.e.start _ refl

-- on a separator, before one, and before another character
pub loop-preserved : goal.loop-preserved
loop-preserved c =
    let invariant = c.loop.invariant in
    let more = c.if-at-t.false in
    let left : c.loop.counter < max c.args.count 1 = omega (arith, c.loop-test.true, c.max-end.ensures) in
    elim c.if-t-at-eq10.branch [
      | then-t-at-eq10 w ↦ rw (w.row-is, w.start-is, w.at-is) (going_on_lem invariant _ _ _ left (step_nl invariant.stands more w.if-t-at-eq10.true)
          (space_nl invariant.stands more w.if-t-at-eq10.true))
      | else-t-at-eq10+else-next-t+then-t-next-eq10 w ↦ let on = w.if-t-at-eq10.false in
          rw (w.row-is, w.start-is, w.at-is) (going_on_lem invariant _ _ _ left (step_nl (step_char invariant.stands more on) w.if-next-t.false w.if-t-next-eq10.true)
          (space_wrap invariant.stands more on w.if-next-t.false w.if-t-next-eq10.true))
      | else-t-at-eq10+else-next-t+else-t-next-eq10 w ↦ let on = w.if-t-at-eq10.false in
          rw (w.row-is, w.start-is, w.at-is) (going_on_lem invariant _ _ _ left (step_char invariant.stands more on)
          (space_on invariant.stands more on w.if-next-t.false w.if-t-next-eq10.false))
    ]

pub returns : goal.returns
returns c =
    going_done c.loop.invariant (omega (arith, c.loop-test.false, c.max-end.ensures)) ∙
    going_from (space_fwd c.args.t.now) _ c.args.p c.args.e.start _ refl
