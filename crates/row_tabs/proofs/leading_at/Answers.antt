-- `row_tabs::leading_at` meets its contract. The invariant of its loop: all before x are blanks, and `visual` is where they end.
-- Assumes nothing.
use Rattle.lists.proofs.Kit.{refl, arith}
use Rattle.row_tabs.proofs.Leading.{leading_on_space, leading_on_tab, leading_stop, leading_end}
use Rattle.row_tabs.proofs.leading_at.Goals as goal
use Rattle.row_tabs.proofs.leading_at.Goals.{then-x-eq32, else-x-eq32+then-x-eq9}

pub loop-x-init : goal.loop-x-init
loop-x-init c = record { inside = omega arith; fits = omega arith; rest = refl }

pub returns-else-x-eq9 : goal.returns-else-x-eq9
returns-else-x-eq9 c =
    leading_stop c.loop-x.invariant c.loop-x-test.true c.if-x-eq32.false c.if-x-eq9.false

pub loop-x-preserved : goal.loop-x-preserved
loop-x-preserved c =
    let so_far = c.loop-x.invariant in
    let more = c.loop-x-test.true in
    elim c.if-x-eq32.branch [
      | then-x-eq32 w ↦ rw w.visual-is (leading_on_space so_far more w.if-x-eq32.true)
      | else-x-eq32+then-x-eq9 w ↦
          let told = w.tab_width-visual.ensures in
          rw w.visual-is (leading_on_tab so_far more w.if-x-eq9.true told.cells told.small)
    ]

pub returns : goal.returns
returns c = leading_end c.loop-x.invariant c.loop-x-test.false
