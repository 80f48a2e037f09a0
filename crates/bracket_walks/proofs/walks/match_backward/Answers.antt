-- `bracket_walks::walks::match_backward` meets its contract. The invariant of its loop: `depth` are closed from b on, no place passed opens what was
-- closed, and b stands in row `row`. Assumes nothing.
use Rattle.lists.proofs.Kit.{sym, ◌∙◌, arith}
use Rattle.text.proofs.Stands.{back_char, back_nl, stands_own}
use Rattle.bracket_walks.proofs.Behind.{behind_start, behind_close, behind_open, behind_other, behind_found, behind_none}
use Rattle.bracket_walks.proofs.Walking.{walking_on}
use Rattle.bracket_walks.proofs.Placed.{placed_at, placed_none, stands_up}
use Rattle.bracket_walks.proofs.walks.match_backward.Goals as goal

pub loop-b-init : goal.loop-b-init
loop-b-init c =
    let required = c.requires in
    record {
      so_far = behind_start _ _ _ _ _ required.1 required.0.stands.within required.0.deep;
      stands = stands_own required.0.stands;
      short = required.0.short;
      small = required.0.bound;
    }

-- the open that brings the depth to none, in its row
pub up-l-requires : goal.up-l-requires
up-l-requires c = back_char c.loop-b.invariant.stands c.loop-b-test.true (λ f. c.loop-b.invariant.so_far.hands.open_char (sym c.if-x-opening.true ∙ f))

pub place-requires : goal.place-requires
place-requires c =
    let met = back_char c.loop-b.invariant.stands c.loop-b-test.true (λ f. c.loop-b.invariant.so_far.hands.open_char (sym c.if-x-opening.true ∙ f)) in
    let by_stands_up = stands_up met c.up-l.ensures in
    omega (arith, by_stands_up.from, by_stands_up.below, by_stands_up.within, c.loop-b.invariant.short)

pub returns-then-depth-eq0 : goal.returns-then-depth-eq0
returns-then-depth-eq0 c =
    let met = back_char c.loop-b.invariant.stands c.loop-b-test.true (λ f. c.loop-b.invariant.so_far.hands.open_char (sym c.if-x-opening.true ∙ f)) in
    let found = behind_found c.loop-b.invariant.so_far c.loop-b-test.true c.if-x-opening.true
    c.if-depth-eq0.true in
    c.place.ensures ∙ placed_at (stands_up met c.up-l.ensures) found

-- another open
pub loop-b-preserved-else-depth-eq0 : goal.loop-b-preserved-else-depth-eq0
loop-b-preserved-else-depth-eq0 c =
    let invariant = c.loop-b.invariant in
    let tested = c.loop-b-test.true in
    let taken = c.if-x-opening.true in
    walking_on invariant (behind_open invariant.so_far tested taken c.if-depth-eq0.false)
    (back_char invariant.stands tested (λ f. invariant.so_far.hands.open_char (sym taken ∙ f)))

-- another close
pub loop-b-preserved-then-x-closing : goal.loop-b-preserved-then-x-closing
loop-b-preserved-then-x-closing c =
    let invariant = c.loop-b.invariant in
    let tested = c.loop-b-test.true in
    walking_on invariant (behind_close invariant.so_far tested c.if-x-closing.true)
    (back_char invariant.stands tested (λ f. invariant.so_far.hands.close_char (sym c.if-x-closing.true ∙ f)))

-- a separator
pub overflow_sub-row : goal.overflow_sub-row
overflow_sub-row c =
    omega (arith, (back_nl c.loop-b.invariant.stands c.loop-b-test.true c.if-x-eq10.true).1)

pub loop-b-preserved-then-x-eq10 : goal.loop-b-preserved-then-x-eq10
loop-b-preserved-then-x-eq10 c =
    let invariant = c.loop-b.invariant in
    let tested = c.loop-b-test.true in
    walking_on invariant (behind_other invariant.so_far tested c.if-x-opening.false c.if-x-closing.false)
    (back_nl invariant.stands tested c.if-x-eq10.true).2

-- any other code point
pub loop-b-preserved : goal.loop-b-preserved
loop-b-preserved c =
    let invariant = c.loop-b.invariant in
    let tested = c.loop-b-test.true in
    walking_on invariant (behind_other invariant.so_far tested c.if-x-opening.false c.if-x-closing.false)
    (back_char invariant.stands tested c.if-x-eq10.false)

pub returns : goal.returns
returns c = placed_none c.args.t.now (behind_none c.loop-b.invariant.so_far c.loop-b-test.false)
