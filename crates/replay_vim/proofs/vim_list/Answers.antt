-- `vim_list` meets its contract: what the call answers and leaves is compared. Assumes nothing.
use Rattle.call_vim.specs.Vim.{vim_by}
use Rattle.replay_verdicts.proofs.Comparing.{places_count}
use Rattle.replay_vim.proofs.Placing.{placed_sized, list_compared}
use Rattle.replay_vim.proofs.vim_list.Goals as goal

pub slice_bounds-compared_two-end : goal.slice_bounds-compared_two-end
slice_bounds-compared_two-end c =
    let given = c.args in
    let given_k = given.k in
    places_count 1 c.vim_list-told.ensures (placed_sized (vim_by given_k.op given_k.a given.list.now))

pub returns : goal.returns
returns c =
    let given = c.args in
    list_compared given.k given.list.now given.stored.now c.vim_list-told.ensures c.compared_two.ensures
