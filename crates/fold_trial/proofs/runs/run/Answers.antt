-- `run` meets its contract: an input that is too long, one without a key, and one by its first row. Assumes nothing.
use Rattle.lists.proofs.Kit.{sym, ℕ, arith, length-replicate, length-take-le}
use Rattle.fold_trial.proofs.Rows.{unread_fits, prints}
use Rattle.fold_trial.proofs.Inputs.{row_most, run_long, run_short, run_count, run_malformed, count_within}
use Rattle.fold_trial.proofs.runs.run.Goals as goal

pub returns-then-input-gt32768 : goal.returns-then-input-gt32768
returns-then-input-gt32768 c =
    rw (run_long c.args.input.now c.if-input-gt32768.true) (prints unread_fits (omega arith) c.not_read.ensures)

pub returns-then-end-lt2 : goal.returns-then-end-lt2
returns-then-end-lt2 c =
    let input = c.args.input.now in
    rw (run_short input c.row_end-end.ensures c.if-input-gt32768.false c.if-end-lt2.true) (prints unread_fits (omega arith) c.not_read-then-end-lt2.ensures)

-- the row lies within the input
pub slice_bounds-read_row-count : goal.slice_bounds-read_row-count
slice_bounds-read_row-count c =
    omega (arith, row_most c.args.input.now, c.row_end-end.ensures)

pub slice_bounds-read_row-start : goal.slice_bounds-read_row-start
slice_bounds-read_row-start c =
    omega (arith, row_most c.args.input.now, c.row_end-end.ensures)

pub slice_bounds-read_row-end : goal.slice_bounds-read_row-end
slice_bounds-read_row-end c =
    omega (arith, row_most c.args.input.now, c.row_end-end.ensures)

pub bounds-input-0 : goal.bounds-input-0
bounds-input-0 c =
    omega (arith, row_most c.args.input.now, c.row_end-end.ensures)

pub slice_bounds-numbers-end : goal.slice_bounds-numbers-end
slice_bounds-numbers-end c =
    let read_row_told = c.read_row.ensures in
    omega (arith, count_within read_row_told _ c.in-Some.is, read_row_told.kept)

pub slice_bounds-by_key-end : goal.slice_bounds-by_key-end
slice_bounds-by_key-end c =
    sym (length-take-le _ _ (count_within c.read_row.ensures _ c.in-Some.is))

pub slice_bounds-by_key-count : goal.slice_bounds-by_key-count
slice_bounds-by_key-count c =
    omega (arith, row_most c.args.input.now, c.row_end-end.ensures)

pub slice_bounds-by_key-start : goal.slice_bounds-by_key-start
slice_bounds-by_key-start c =
    omega (arith, row_most c.args.input.now, c.row_end-end.ensures)

pub returns-in-Some : goal.returns-in-Some
returns-in-Some c =
    let input = c.args.input.now in
    let is = c.row_end-end.ensures in
    rw (run_count input is c.if-input-gt32768.false c.if-end-lt2.false c.read_row.ensures (length-replicate {A = ℕ} 1024 0) _ c.in-Some.is)
    c.by_key.ensures

pub returns-in-None : goal.returns-in-None
returns-in-None c =
    let input = c.args.input.now in
    let is = c.row_end-end.ensures in
    rw (run_malformed input is c.if-input-gt32768.false c.if-end-lt2.false c.read_row.ensures (length-replicate {A = ℕ} 1024 0)
    c.in-None.is) (prints unread_fits (omega arith) c.not_read-in-None.ensures)
