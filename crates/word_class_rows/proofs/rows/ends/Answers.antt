-- `word_class_rows::rows::ends` meets its contract. The invariant of its loop: the ends from a up to i are counted.
-- Assumes nothing.
use Rattle.lists.proofs.Kit.{ap, sym, ◌∙◌, ◌<◌, arith, length}
use Rattle.word_class_rows.specs.Rows.{row_of}
use Rattle.word_class_rows.proofs.Counting.{row_end_next, row_char_next}
use Rattle.word_class_rows.proofs.rows.ends.Goals as goal
use Rattle.word_class_rows.proofs.rows.ends.Goals.{then-is_end, else-is_end}

pub loop-i-init : goal.loop-i-init
loop-i-init c = record { few = omega arith; rows = omega arith }

-- an end, and a character
pub loop-i-preserved : goal.loop-i-preserved
loop-i-preserved c =
    let so_far = c.loop-i.invariant in
    let there : c.loop-i.i < length c.args.c.now = omega (arith, c.loop-i-test.true, c.requires.within) in
    elim c.if-is_end.branch [
      | then-is_end w ↦
          let by_row_end_next = row_end_next c.args.c.now c.loop-i.i there (sym c.is_end.ensures ∙ w.if-is_end.true) in
          rw w.n-is (record { few = omega (arith, so_far.few); rows = omega (arith, by_row_end_next, so_far.rows) })
      | else-is_end w ↦
          let by_row_char_next = row_char_next c.args.c.now c.loop-i.i there (sym c.is_end.ensures ∙ w.if-is_end.false) in
          rw w.n-is (record { few = omega (arith, so_far.few); rows = omega (arith, by_row_char_next, so_far.rows) })
    ]

pub returns : goal.returns
returns c =
    let so_far = c.loop-i.invariant in
    so_far.rows ∙ ap (row_of c.args.c.now) (omega (arith, c.loop-i-test.false, so_far.few))
