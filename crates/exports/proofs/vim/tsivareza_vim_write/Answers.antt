-- `tsivareza_vim_write` meets its contract: the room is filled, and the call on code points answers. Assumes nothing.
use Rattle.lists.proofs.Kit.{List, ℕ}
use Rattle.call_signs.specs.Entry.{placed_reply}
use Rattle.call_vim.specs.Vim.{vim_writing, vim_left}
use Rattle.call_bytes.proofs.Replies.{answered_one, left_fit}
use Rattle.exports.proofs.Parts.{parts}
use Rattle.exports.proofs.vim.tsivareza_vim_write.Goals as goal

-- the call on code points answers
pub returns : goal.returns
returns c =
    let given = c.args in
    let fill_told = c.fill-f.ensures in
    let vim_write_told = c.vim_write.ensures in
    record { answered = answered_one fill_told (λ (t : List ℕ). placed_reply (vim_writing t given.written.now)) c.if-f-ne0.false vim_write_told.replied; written_after = left_fit fill_told (λ (t : List ℕ). vim_left t given.written.now) c.if-f-ne0.false _ vim_write_told.written_after }

pub returns-then-f-ne0 : goal.returns-then-f-ne0
returns-then-f-ne0 c = search parts

pub slice_bounds-vim_write-end : goal.slice_bounds-vim_write-end
slice_bounds-vim_write-end c = search parts

pub slice_bounds-vim_write-end-2 : goal.slice_bounds-vim_write-end-2
slice_bounds-vim_write-end-2 c = search parts
