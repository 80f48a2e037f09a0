-- `compared_all` meets its contract: the pieces, one after another, are compared. Assumes nothing.
use Rattle.lists.proofs.Kit.{sym, arith, length-take-le}
use Rattle.print.proofs.Laws.{wrote_then}
use Rattle.replay_edits.proofs.Comparing.{written_front}
use Rattle.replay_edits.proofs.compared_all.Goals as goal

pub slice_bounds-compared-end : goal.slice_bounds-compared-end
slice_bounds-compared-end c =
    let put_all_told = c.put_all-a.ensures in
    let put_all2_told = c.put_all-b.ensures in
    let put_all3_told = c.put_all-c.ensures in
    let put_all4_told = c.put_all-d.ensures in
    sym (length-take-le _ _ (omega (
      arith,
      put_all_told.next,
      put_all_told.size,
      put_all2_told.next,
      put_all2_told.size,
      put_all3_told.next,
      put_all3_told.size,
      put_all4_told.next,
      put_all4_told.size,
      c.requires,
    )))

pub returns : goal.returns
returns c =
    let put_all_told = c.put_all-a.ensures in
    let put_all2_told = c.put_all-b.ensures in
    let put_all3_told = c.put_all-c.ensures in
    let put_all4_told = c.put_all-d.ensures in
    let all = wrote_then (wrote_then (wrote_then put_all_told put_all2_told) put_all3_told) put_all4_told in
    let front = written_front all
    (omega (arith, all.next, put_all_told.next, put_all2_told.next, put_all3_told.next, put_all4_told.next, c.requires)) in
    rw front at c.compared.ensures
