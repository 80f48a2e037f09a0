-- `tallies::tally_of` meets its contract. The invariant of its loop, `Tallying`: the rows before `at` are counted. The measure is the length
-- less `at`. Assumes nothing.
use Rattle.lists.proofs.Kit.{sym, ℕ, ◌-◌, arith, replicate, length-replicate}
use Rattle.replay_rows.proofs.Lines.{row_within}
use Rattle.replay.proofs.Counting.{tallying_start, tallying_countable, tallying_on, tallying_end}
use Rattle.replay.proofs.tallies.tally_of.Goals as goal

pub loop-at-init : goal.loop-at-init
loop-at-init c = tallying_start c.args.bytes.now (replicate {A = ℕ} 1048832 0) (length-replicate {A = ℕ} 1048832 0)

-- the row lies within the bytes
pub slice_bounds-row_verdict-count : goal.slice_bounds-row_verdict-count
slice_bounds-row_verdict-count c =
    omega (arith, row_within c.args.bytes.now c.loop-at.at _ c.loop-at-test.true c.row_end-end.ensures)

pub slice_bounds-row_verdict-start : goal.slice_bounds-row_verdict-start
slice_bounds-row_verdict-start c =
    omega (arith, row_within c.args.bytes.now c.loop-at.at _ c.loop-at-test.true c.row_end-end.ensures)

pub slice_bounds-row_verdict-end : goal.slice_bounds-row_verdict-end
slice_bounds-row_verdict-end c =
    omega (arith, row_within c.args.bytes.now c.loop-at.at _ c.loop-at-test.true c.row_end-end.ensures)

pub slice_bounds-row_verdict-end-in-loop-at : goal.slice_bounds-row_verdict-end-in-loop-at
slice_bounds-row_verdict-end-in-loop-at c = sym c.loop-at.invariant.kept

pub counted-t-requires : goal.counted-t-requires
counted-t-requires c =
    tallying_countable c.loop-at.invariant c.loop-at-test.true (omega arith)

pub loop-at-smaller : goal.loop-at-smaller
loop-at-smaller c =
    omega (
      arith,
      row_within c.args.bytes.now c.loop-at.at _ c.loop-at-test.true c.row_end-end.ensures,
    )

-- one row more
pub loop-at-preserved : goal.loop-at-preserved
loop-at-preserved c =
    rw c.counted-t.ensures (tallying_on c.loop-at.invariant c.loop-at-test.true _ c.row_end-end.ensures
    c.row_verdict-v.ensures)

pub returns : goal.returns
returns c = tallying_end c.loop-at.invariant c.loop-at-test.false
