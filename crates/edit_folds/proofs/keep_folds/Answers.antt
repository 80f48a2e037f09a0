-- `edit_folds::keep_folds` meets its contract. The invariant of its loop: i folds are passed, and the w of them that are kept stand at the front.
-- Assumes nothing.
use Rattle.lists.proofs.Kit.{sym, ◌∙◌, ◌+◌, ◌*◌, arith, rules}
use Rattle.edit_folds.proofs.Mapped.{moved_none, moved_read, moved_lost, moved_kept, moved_all}
use Rattle.edit_folds.proofs.keep_folds.Goals as goal
use Rattle.edit_folds.proofs.keep_folds.Goals.{then-not-is_lost, else-not-is_lost}

-- the rows of a fold can be raised: what is read is still the old row
pub map_row-x-requires : goal.map_row-x-requires
map_row-x-requires c =
    let at_loop = c.loop-i in
    let at = 3 * at_loop.i in
    record {
      order = c.requires.order;
      near = omega (arith, moved_read at_loop.invariant at (omega arith), c.requires.raises.room at (omega arith));
    }

pub map_row-y-requires : goal.map_row-y-requires
map_row-y-requires c =
    let at_loop = c.loop-i in
    let at = 3 * at_loop.i + 1 in
    record {
      order = c.requires.order;
      near = omega (arith, moved_read at_loop.invariant at (omega arith), c.requires.raises.room at (omega arith));
    }

-- the fold is kept, or lost
pub loop-i-preserved : goal.loop-i-preserved
loop-i-preserved c =
    elim c.if-not-is_lost.branch [
      | then-not-is_lost w ↦ rw (w.folds-is, w.w-is) (
          moved_kept c.loop-i.invariant c.loop-i-test.true c.map_row-x.ensures c.map_row-y.ensures
          (sym c.is_lost.ensures ∙ w.if-not-is_lost.true) w.put_fold.ensures)
      | else-not-is_lost w ↦ rw (w.folds-is, w.w-is) (
          moved_lost c.loop-i.invariant c.loop-i-test.true c.map_row-x.ensures c.map_row-y.ensures
          (sym c.is_lost.ensures ∙ w.if-not-is_lost.false))
    ]

pub loop-i-init : goal.loop-i-init
loop-i-init c = search (rules, moved_none)

pub returns : goal.returns
returns c = search (rules, moved_all)
