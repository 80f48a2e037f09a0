-- `walks::backspace_back` meets its contract. The invariant of its loop: what is left of the rounds, from the place of the walk, leads where all of them
-- do. Assumes nothing.
use Rattle.lists.proofs.Kit.{◌≡◌, ap, sym, ◌∙◌, ℕ, ◌<◌, ◌-◌, max, arith}
use Rattle.text.specs.Text.{position}
use Rattle.text.specs.Offsets.{row_start}
use Rattle.text.proofs.Stands.{back_char, back_nl}
use Rattle.steps.specs.Steps.{backspace_back}
use Rattle.steps.proofs.Stepping.{going_on_lem, going_done, going_stop, going_from}
use Rattle.steps.proofs.Stepping.{back_first, back_on, back_end, back_void, back_wrap, up_start}
use Rattle.steps.proofs.walks.backspace_back.Goals as goal
use Rattle.steps.proofs.walks.backspace_back.Goals.{then-t-at-eq10+then-at-gt0+then-t-at-ne10, then-t-at-eq10+else-at-gt0, else-t-at-eq10}
use Rattle.steps.proofs.walks.backspace_back.Goals.{else-at-gt0-via-then-at-gt0+else-t-at-ne10, else-at-gt0-via-else-at-gt0}

-- at the first offset
pub returns-then-at-eq0 : goal.returns-then-at-eq0
returns-then-at-eq0 c =
    let invariant = c.loop.invariant in
    let by_back_first = back_first invariant.stands c.if-at-eq0.true in
    let first = sym by_back_first.0 in
    let none : 0 ≡ c.loop.at - row_start c.args.t.now c.loop.row = omega arith in
    (λ i. position (first i) (none i)) ∙ going_stop invariant by_back_first.1
    ∙ going_from (backspace_back c.args.t.now) _ c.args.p c.args.e.start _ c.requires.line.begins

-- behind a separator there is a row before
pub overflow_sub-row : goal.overflow_sub-row
overflow_sub-row c = (back_nl c.loop.invariant.stands (omega arith) c.if-t-at-eq10.true).1

-- behind the separator of a row that has characters, behind that of an empty one, and behind a character
pub loop-preserved : goal.loop-preserved
loop-preserved c =
    let invariant = c.loop.invariant in
    let some : 0 < c.loop.at = omega arith in
    let left : c.loop.counter < max c.args.count 1 = omega (arith, c.loop-test.true, c.max-end.ensures) in
    elim c.if-t-at-eq10.branch [
      | then-t-at-eq10+then-at-gt0+then-t-at-ne10 w ↦ rw (w.row-is, w.at-is) (going_on_lem invariant _ _ _ left
          (back_char (back_end invariant.stands some w.if-t-at-eq10.true) w.if-at-gt0.true w.if-t-at-ne10.true)
          (back_wrap invariant.stands some w.if-t-at-eq10.true w.if-at-gt0.true w.if-t-at-ne10.true))
      | then-t-at-eq10+else-at-gt0 w ↦ rw (w.row-is, w.at-is) (going_on_lem invariant _ _ _ left (back_end invariant.stands some w.if-t-at-eq10.true)
          (back_void invariant.stands some w.if-t-at-eq10.true (λ p. elim w.else-at-gt0.branch [
            | else-at-gt0-via-then-at-gt0+else-t-at-ne10 v ↦ v.if-t-at-ne10.false
            | else-at-gt0-via-else-at-gt0 v ↦ absurd (omega (arith, v.if-at-gt0.false))
          ])))
      | else-t-at-eq10 w ↦ rw (w.row-is, w.at-is) (going_on_lem invariant _ _ _ left (back_char invariant.stands some w.if-t-at-eq10.false)
          (back_on invariant.stands some w.if-t-at-eq10.false))
    ]

pub returns : goal.returns
returns c =
    ap (λ (s : ℕ). position c.loop.row (c.loop.at - s))
    (up_start c.args.t.now c.up-l.result c.loop.row c.up-l.ensures) ∙
    going_done c.loop.invariant (omega (arith, c.loop-test.false, c.max-end.ensures)) ∙
    going_from (backspace_back c.args.t.now) _ c.args.p c.args.e.start _ c.requires.line.begins
