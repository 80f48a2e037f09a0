-- `editing::compared_all` meets its contract: the pieces, one after another, are compared. Assumes nothing.
use Rattle.lists.proofs.Kit.{sym, arith, length-take-le}
use Rattle.print.proofs.Laws.{wrote_then}
use Rattle.replay_edits.proofs.Comparing.{written_front}
use Rattle.replay_tables.proofs.editing.compared_all.Goals as goal

pub slice_bounds-compared-end : goal.slice_bounds-compared-end
slice_bounds-compared-end c =
    let caret_put = c.put_all-a.ensures in
    let sizes_put = c.put_all-b.ensures in
    let text_put = c.put_all-c.ensures in
    let folds_put = c.put_all-d.ensures in
    let table_put = c.put_all-e.ensures in
    let fit = c.requires in
    sym (length-take-le _ _ (omega (
      arith,
      caret_put.next,
      caret_put.size,
      sizes_put.next,
      sizes_put.size,
      text_put.next,
      text_put.size,
      folds_put.next,
      folds_put.size,
      table_put.next,
      table_put.size,
      fit.0,
      fit.1,
      fit.2,
    )))

pub returns : goal.returns
returns c =
    let caret_put = c.put_all-a.ensures in
    let sizes_put = c.put_all-b.ensures in
    let text_put = c.put_all-c.ensures in
    let folds_put = c.put_all-d.ensures in
    let table_put = c.put_all-e.ensures in
    let fit = c.requires in
    let all = wrote_then (wrote_then (wrote_then (wrote_then caret_put sizes_put) text_put) folds_put) table_put in
    let front =
    written_front all (omega (arith, all.next, caret_put.next, sizes_put.next, text_put.next, folds_put.next, table_put.next, fit.0, fit.1, fit.2)) in
    rw front at c.compared.ensures
