-- `text_rows::read` meets its contract. The invariant of its loop: the marks found so far and those still to come are all, and so are the bits.
-- Assumes nothing.
use Rattle.lists.proofs.Kit.{ap, sym, ◌∙◌, arith, leb, rules}
use Rattle.text_rows.proofs.Bits.{bits_on, bits_end}
use Rattle.text_rows.proofs.Marks.{marks_on, marks_over, marks_end}
use Rattle.text_rows.proofs.read.Goals as goal
use Rattle.text_rows.proofs.read.Goals.{then-is_mark, else-is_mark}

pub loop-x-preserved : goal.loop-x-preserved
loop-x-preserved c =
    let text_now = c.args.t.now in
    let i = c.loop-x.x-index in
    let so_far = c.loop-x.invariant in
    let more = c.loop-x-test.true in
    let on = bits_on text_now i c.loop-x.bits more so_far.all_bits in
    elim c.if-is_mark.branch [
      | then-is_mark w ↦ rw w.n-is (record {
        within = search rules;
        few = omega (arith, so_far.few);
        marks = omega (arith, so_far.marks, marks_on text_now i more (sym c.is_mark.ensures ∙ w.if-is_mark.true));
        all_bits = on;
      })
      | else-is_mark w ↦ rw w.n-is (record {
        within = search rules;
        few = omega (arith, so_far.few);
        marks = omega (arith, so_far.marks, marks_over text_now i more (sym c.is_mark.ensures ∙ w.if-is_mark.false));
        all_bits = on;
      })
    ]

pub returns : goal.returns
returns c =
    let text_now = c.args.t.now in
    let done = c.loop-x-test.false in
    record {
      high = ap (leb 0x2000) (sym (bits_end text_now c.loop-x.x-index c.loop-x.bits done c.loop-x.invariant.all_bits));
      marks = omega (arith, c.loop-x.invariant.marks, marks_end text_now c.loop-x.x-index done);
      few = omega (arith, c.loop-x.invariant.within, c.loop-x.invariant.few);
    }
