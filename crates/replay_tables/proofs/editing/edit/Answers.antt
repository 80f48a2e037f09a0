-- `editing::edit` meets its contract: the tests of the definition, and the buffers and the table that are lent. Assumes nothing.
use Rattle.lists.proofs.Kit.{sym, arith, length-take-le, le-leb, lt-leb}
use Rattle.replay_edits.proofs.Comparing.{lent_front}
use Rattle.replay_tables.specs.Edits.{edit_verdict}
use Rattle.replay_tables.proofs.editing.edit.Goals as goal

pub returns-then-n-gt64 : goal.returns-then-n-gt64
unfolding edit_verdict
returns-then-n-gt64 c = rw (lt-leb _ 64 c.if-n-gt64.true)

pub returns-then-m-gt64 : goal.returns-then-m-gt64
unfolding edit_verdict
returns-then-m-gt64 c = rw (le-leb _ 64 c.if-n-gt64.false, lt-leb _ 64 c.if-m-gt64.true)

pub returns-then-o-gt64 : goal.returns-then-o-gt64
unfolding edit_verdict
returns-then-o-gt64 c = rw (le-leb _ 64 c.if-n-gt64.false, le-leb _ 64 c.if-m-gt64.false, lt-leb _ 64 c.if-o-gt64.true)

pub slice_bounds-edit_into-end : goal.slice_bounds-edit_into-end
slice_bounds-edit_into-end c =
    sym (length-take-le _ _ (omega (arith, c.put_all.ensures.size, c.if-n-gt64.false)))

pub slice_bounds-edit_into-end-2 : goal.slice_bounds-edit_into-end-2
slice_bounds-edit_into-end-2 c =
    sym (length-take-le _ _ (omega (arith, c.put_all-2.ensures.size, c.if-m-gt64.false)))

pub slice_bounds-edit_into-end-3 : goal.slice_bounds-edit_into-end-3
slice_bounds-edit_into-end-3 c =
    sym (length-take-le _ _ (omega (arith, c.put_all-3.ensures.size, c.if-o-gt64.false)))

pub edit_into-requires : goal.edit_into-requires
edit_into-requires c =
    let text_fits = c.if-n-gt64.false in
    let folds_fit = c.if-m-gt64.false in
    let table_fits = c.if-o-gt64.false in (
      rw (lent_front c.put_all.ensures text_fits) text_fits,
      rw (lent_front c.put_all-2.ensures folds_fit) folds_fit,
      rw (lent_front c.put_all-3.ensures table_fits) table_fits,
    )

pub returns : goal.returns
unfolding edit_verdict
returns c =
    let text_fits = c.if-n-gt64.false in
    let folds_fit = c.if-m-gt64.false in
    let table_fits = c.if-o-gt64.false in
    let text_front = lent_front c.put_all.ensures text_fits in
    let folds_front = lent_front c.put_all-2.ensures folds_fit in
    let table_front = lent_front c.put_all-3.ensures table_fits in
    rw (le-leb _ 64 text_fits, le-leb _ 64 folds_fit, le-leb _ 64 table_fits) (rw (text_front, folds_front, table_front) at c.edit_into.ensures)
