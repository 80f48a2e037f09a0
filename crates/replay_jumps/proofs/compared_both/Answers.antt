-- `compared_both` meets its contract: the pieces, one after another, are compared. Assumes nothing.
use Rattle.lists.proofs.Kit.{sym, arith, length-take-le}
use Rattle.print.proofs.Laws.{wrote_then}
use Rattle.replay_edits.proofs.Comparing.{written_front}
use Rattle.replay_jumps.proofs.compared_both.Goals as goal

pub slice_bounds-compared-end : goal.slice_bounds-compared-end
slice_bounds-compared-end c =
    let caret_put = c.put_all-a.ensures in
    let answers_put = c.put_all-b.ensures in
    sym (length-take-le _ _ (omega (arith, caret_put.next, caret_put.size, answers_put.next, answers_put.size, c.requires)))

pub returns : goal.returns
returns c =
    let caret_put = c.put_all-a.ensures in
    let answers_put = c.put_all-b.ensures in
    let all = wrote_then caret_put answers_put in
    let front = written_front all (omega (arith, all.next, caret_put.next, answers_put.next, c.requires)) in
    rw front at c.compared.ensures
