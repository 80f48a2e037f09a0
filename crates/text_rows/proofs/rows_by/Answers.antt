-- `text_rows::rows_by` meets its contract. The invariant of its loop: what is known of a text that was passed over up to what the walk has left.
-- Assumes nothing.
use Rattle.lists.proofs.Kit.{sym, ◌∙◌, arith}
use Rattle.std.specs.Slice.Iter.{chunks_rest}
use Rattle.text_rows.proofs.Stretches.{passed_first, passed_next, passed_all}
use Rattle.text_rows.proofs.Told.{tells_none}
use Rattle.text_rows.proofs.rows_by.Goals as goal

pub loop-part-init : goal.loop-part-init
loop-part-init c =
    let given = c.args in
    let all = c.chunks-part-items.ensures in
    rw (c.into_iter-part-iterator.ensures.into_iter_gives, all.rest, all.size)
    (record { passed = passed_first given.t.now given.starts.now c.if-starts-eq0.false c.if-starts-ne0.false; small = omega arith })

pub read-s-requires : goal.read-s-requires
read-s-requires c = omega (arith, c.in-Some.ensures.steps.1.1, c.loop-part.invariant.small)

pub overflow_add-more : goal.overflow_add-more
overflow_add-more c =
    omega (arith, c.loop-part.invariant.passed.few, c.read-s.ensures.few, c.if-t-gt1048576.false, c.in-Some.ensures.steps.1.1, c.loop-part.invariant.small)

pub go_on-requires : goal.go_on-requires
go_on-requires c =
    let so_far = c.loop-part.invariant.passed in
    record { ascend = so_far.ascend; order = omega arith; room = omega (arith, c.if-more-starts.false) }

-- the stretch's starts go on from those before it
pub loop-part-preserved : goal.loop-part-preserved
loop-part-preserved c =
    let given = c.args in
    let step = c.in-Some.ensures.steps in
    let clear = sym c.high_refusal.ensures ∙ c.if-high_refusal-ne0.false in
    let ascend = c.go_on.ensures.ascend (c.if-not-go_on.false) in
    record {
      passed = passed_next given.t.now given.starts.now c.loop-part.invariant.passed c.in-Some.part.now (chunks_rest c.next.new.self) step.1.0
          c.read-s.result c.read-s.ensures clear ascend (omega (arith, c.if-more-starts.false));
      small = omega (arith, c.loop-part.invariant.small, step.0);
    }

pub returns : goal.returns
returns c =
    passed_all _ _ c.loop-part.invariant.passed (omega (arith, c.in-None.ensures.steps.1.0)) (omega (arith, c.if-t-gt1048576.false))

pub returns-then-t-gt1048576 : goal.returns-then-t-gt1048576
returns-then-t-gt1048576 c = tells_none _ _

pub returns-then-starts-eq0 : goal.returns-then-starts-eq0
returns-then-starts-eq0 c = tells_none _ _

pub returns-then-starts-ne0 : goal.returns-then-starts-ne0
returns-then-starts-ne0 c = tells_none _ _

pub returns-then-high_refusal-ne0 : goal.returns-then-high_refusal-ne0
returns-then-high_refusal-ne0 c = tells_none _ _

pub returns-then-more-starts : goal.returns-then-more-starts
returns-then-more-starts c = tells_none _ _

pub returns-then-not-go_on : goal.returns-then-not-go_on
returns-then-not-go_on c = tells_none _ _
