-- `row_segment::segment::after_white` meets its contract. The invariant of its loop: the characters from b on and before n are no white space.
-- Assumes nothing.
use Rattle.lists.proofs.Kit.{◌≡◌, refl, sym, ap, ◌∙◌, ◌+◌, ◌-◌, arith}
use Rattle.chars.specs.White.{is_white}
use Rattle.row_segment.proofs.White.{white_none, white_here, white_before}
use Rattle.row_segment.specs.Segments.{after_white}
use Rattle.row_segment.proofs.segment.after_white.Goals as goal

pub loop-b-init : goal.loop-b-init
loop-b-init c = record { before = omega arith; rest = refl }

pub returns-then-white_in : goal.returns-then-white_in
returns-then-white_in c =
    let invariant = c.loop-b.invariant in
    let one : c.loop-b.b - 1 + 1 ≡ c.loop-b.b = omega arith in
    rw one (sym (invariant.rest ∙ white_here is_white _ _ c.loop-b-test.true (omega arith) (sym c.white_in.ensures ∙ c.if-white_in.true)))

pub loop-b-preserved : goal.loop-b-preserved
loop-b-preserved c =
    let invariant = c.loop-b.invariant in
    record {
      before = omega arith;
      rest = invariant.rest ∙ white_before is_white _ _ c.loop-b-test.true (omega arith) (sym c.white_in.ensures ∙ c.if-white_in.false);
    }

pub returns : goal.returns
returns c =
    let row = c.args.row.now in
    let none : c.loop-b.b ≡ 0 = omega arith in
    sym (c.loop-b.invariant.rest ∙ ap (after_white is_white row) none ∙ white_none is_white row)
