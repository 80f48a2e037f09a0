-- `text::offsets::line_of` meets its contract. The invariant of its loop: i stands in row `row`. Assumes nothing.
use Rattle.lists.proofs.Kit.{◌≡◌, ap, sym, ◌∙◌, arith}
use Rattle.text.specs.Offsets.{row_of}
use Rattle.text.proofs.Stands.{line_eq, step_char, step_nl, stands_row}
use Rattle.text.proofs.offsets.line_of.Goals as goal
use Rattle.text.proofs.offsets.line_of.Goals.{then-t-i-eq10, else-t-i-eq10}

pub loop-i-preserved : goal.loop-i-preserved
loop-i-preserved c =
    let stands = c.loop-i.invariant.stands in
    elim c.if-t-i-eq10.branch [
      | then-t-i-eq10 w ↦ rw (w.row-is, w.start-is)
          (record { stands = step_nl stands (omega arith) w.if-t-i-eq10.true; before = omega arith; within = omega arith })
      | else-t-i-eq10 w ↦ rw (w.row-is, w.start-is)
          (record { stands = step_char stands (omega arith) w.if-t-i-eq10.false; before = omega arith; within = omega arith })
    ]

pub returns : goal.returns
returns c =
    let text_now = c.args.t.now in
    let here : c.loop-i.i ≡ c.args.at = omega arith in
    line_eq c.args.t.now c.loop-i.invariant.stands.begins (sym (stands_row c.loop-i.invariant.stands) ∙ ap (row_of text_now) here)
