-- `bracket_walks::walks::match_forward` meets its contract. The invariant of its loop: `depth` are open at j, no place passed closes what was open,
-- and j stands in row `row`. Assumes nothing.
use Rattle.lists.proofs.Kit.{sym, ◌∙◌, arith}
use Rattle.text.proofs.Stands.{step_char, step_nl}
use Rattle.bracket_walks.proofs.Ahead.{ahead_start, ahead_close, ahead_open, ahead_other, ahead_found, ahead_none}
use Rattle.bracket_walks.proofs.Walking.{walking_on}
use Rattle.bracket_walks.proofs.Placed.{placed_at, placed_none}
use Rattle.bracket_walks.proofs.walks.match_forward.Goals as goal
use Rattle.bracket_walks.proofs.walks.match_forward.Goals.{then-x-closing+else-depth-eq0, else-x-closing+then-x-opening}
use Rattle.bracket_walks.proofs.walks.match_forward.Goals.{else-x-closing+else-x-opening+then-x-eq10, else-x-closing+else-x-opening+else-x-eq10}

pub loop-j-init : goal.loop-j-init
loop-j-init c =
    let required = c.requires in
    record {
      so_far = ahead_start _ _ _ _ _ required.1 required.0.stands.within required.0.deep;
      stands = required.0.stands;
      short = required.0.short;
      small = required.0.bound;
    }

pub place-requires : goal.place-requires
place-requires c =
    let invariant = c.loop-j.invariant in
    omega (arith, invariant.stands.from, invariant.stands.below, invariant.stands.within, invariant.short)

-- the close that brings the depth to none
pub returns-then-depth-eq0 : goal.returns-then-depth-eq0
returns-then-depth-eq0 c =
    let invariant = c.loop-j.invariant in
    c.place.ensures ∙
    placed_at invariant.stands (ahead_found invariant.so_far c.loop-j-test.true c.if-x-closing.true c.if-depth-eq0.true)

-- another close, another open, a separator, or any other code point
pub loop-j-preserved : goal.loop-j-preserved
loop-j-preserved c =
    let invariant = c.loop-j.invariant in
    let so_far = invariant.so_far in
    let tested = c.loop-j-test.true in
    elim c.if-x-closing.branch [
      | then-x-closing+else-depth-eq0 w ↦ rw (w.depth-is, w.row-is, w.start-is) (
          walking_on invariant (ahead_close so_far tested w.if-x-closing.true w.if-depth-eq0.false)
          (step_char invariant.stands tested (λ f. so_far.hands.close_char (sym w.if-x-closing.true ∙ f)))
          )
      | else-x-closing+then-x-opening w ↦ rw (w.depth-is, w.row-is, w.start-is) (
          walking_on invariant (ahead_open so_far tested w.if-x-opening.true)
          (step_char invariant.stands tested (λ f. so_far.hands.open_char (sym w.if-x-opening.true ∙ f)))
          )
      | else-x-closing+else-x-opening+then-x-eq10 w ↦ rw (w.depth-is, w.row-is, w.start-is) (
          walking_on invariant (ahead_other so_far tested w.if-x-opening.false w.if-x-closing.false)
          (step_nl invariant.stands tested w.if-x-eq10.true)
          )
      | else-x-closing+else-x-opening+else-x-eq10 w ↦ rw (w.depth-is, w.row-is, w.start-is) (
          walking_on invariant (ahead_other so_far tested w.if-x-opening.false w.if-x-closing.false)
          (step_char invariant.stands tested w.if-x-eq10.false)
          )
    ]

pub returns : goal.returns
returns c = placed_none c.args.t.now (ahead_none c.loop-j.invariant.so_far c.loop-j-test.false)
