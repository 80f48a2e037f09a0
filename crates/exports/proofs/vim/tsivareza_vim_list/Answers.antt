-- `tsivareza_vim_list` meets its contract: the room is filled, and the call on code points answers. Assumes nothing.
use Rattle.lists.proofs.Kit.{List, ℕ}
use Rattle.call_signs.specs.Entry.{placed_reply}
use Rattle.call_vim.specs.Vim.{vim_by}
use Rattle.call_bytes.proofs.Replies.{answered_one}
use Rattle.exports.proofs.Parts.{parts}
use Rattle.exports.proofs.vim.tsivareza_vim_list.Goals as goal

-- the call on code points answers
pub returns : goal.returns
returns c =
    let given = c.args in
    answered_one c.fill-f.ensures (λ (t : List ℕ). placed_reply (vim_by given.op given.x t)) c.if-f-ne0.false
    c.vim_list.ensures

pub returns-then-f-ne0 : goal.returns-then-f-ne0
returns-then-f-ne0 c = search parts

pub slice_bounds-vim_list-end : goal.slice_bounds-vim_list-end
slice_bounds-vim_list-end c = search parts

pub slice_bounds-vim_list-end-2 : goal.slice_bounds-vim_list-end-2
slice_bounds-vim_list-end-2 c = search parts
