-- `word_vim` meets its contract: what the call answers and leaves is compared. Assumes nothing.
use Rattle.replay_verdicts.proofs.Comparing.{places_count}
use Rattle.replay_vim.proofs.Placing.{word_sized, word_compared}
use Rattle.replay_vim.proofs.word_vim.Goals as goal

pub slice_bounds-compared_two-end : goal.slice_bounds-compared_two-end
slice_bounds-compared_two-end c = places_count 4 c.word_vim-told.ensures (word_sized _)

pub returns : goal.returns
returns c =
    let given = c.args in
    word_compared given.k given.text.now given.folds.now given.list.now given.stored.now c.word_vim-told.ensures
    c.compared_two.ensures
