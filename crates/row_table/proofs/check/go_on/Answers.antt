-- `check::go_on` meets its contract. The invariant of its loop: the first i starts ascend, and stand behind a separator each.
-- Assumes nothing.
use Rattle.lists.proofs.Kit.{◌≡◌, refl, ◌+◌, ◌-◌, arith}
use Rattle.row_table.proofs.Held.{held_no, table_within, table_behind, table_ascends}
use Rattle.row_table.proofs.Ascend.{ascend_next, goes_yes, goes_no}
use Rattle.row_table.proofs.check.go_on.Goals as goal

pub overflow_cast-last : goal.overflow_cast-last
overflow_cast-last c = omega (arith, c.type_inv.starts (c.args.from - 1))

pub loop-i-init : goal.loop-i-init
loop-i-init c =
    record { ascend = c.requires.ascend; last_is = refl; within = c.requires.order }

pub overflow_cast-s : goal.overflow_cast-s
overflow_cast-s c = omega (arith, c.type_inv.starts c.loop-i.i)

-- a start that isn't above the one before
pub returns-then-s-last : goal.returns-then-s-last
returns-then-s-last c =
    let given = c.args in
    let so_far = c.loop-i.invariant in
    goes_no (held_no _ _ _ (λ q same. omega (
      arith,
      c.if-s-last.true,
      so_far.last_is,
      table_ascends given.t.now given.starts.now same c.loop-i.i so_far.ascend.some (omega (arith, c.loop-i-test.true, q)),
    )))

-- one beyond the text
pub returns-then-s-t : goal.returns-then-s-t
returns-then-s-t c =
    let given = c.args in
    goes_no (held_no _ _ _ (λ q same. omega (
      arith,
      c.if-s-t.true,
      table_within given.t.now given.starts.now same c.loop-i.i (omega (arith, c.loop-i-test.true, q)),
    )))

-- one that stands behind no separator
pub returns-then-t-s-ne10 : goal.returns-then-t-s-ne10
returns-then-t-s-ne10 c =
    let given = c.args in
    goes_no (held_no _ _ _ (λ q same. c.if-t-s-ne10.true
    (table_behind given.t.now given.starts.now same c.loop-i.i (omega (arith, c.loop-i-test.true, q))
    c.loop-i.invariant.ascend.some)))

pub loop-i-preserved : goal.loop-i-preserved
loop-i-preserved c =
    let so_far = c.loop-i.invariant in
    let next_is : c.loop-i.i + 1 - 1 ≡ c.loop-i.i = omega arith in
    record {
      ascend = ascend_next so_far.ascend (omega (arith, so_far.last_is, c.if-s-last.false)) (omega (arith, c.if-s-t.false))
          c.if-t-s-ne10.false;
      last_is = rw next_is;
      within = omega (arith, c.loop-i-test.true);
    }

pub returns : goal.returns
returns c =
    let so_far = c.loop-i.invariant in
    let all : c.loop-i.i ≡ c.args.rows = omega (arith, so_far.within, c.loop-i-test.false) in
    goes_yes (rw all at so_far.ascend)
