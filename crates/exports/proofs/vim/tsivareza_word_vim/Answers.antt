-- `tsivareza_word_vim` meets its contract: the room is filled, and the call on code points answers. Assumes nothing.
use Rattle.lists.proofs.Kit.{refl}
use Rattle.call_texts.specs.Carets.{caret_of}
use Rattle.call_folds.specs.Terms.{is_big}
use Rattle.call_vim_words.specs.ByTerm.{words_vim}
use Rattle.call_bytes.proofs.Joins.{joined_three}
use Rattle.exports.proofs.Parts.{parts}
use Rattle.exports.proofs.vim.tsivareza_word_vim.Goals as goal

-- the call on code points answers
pub returns : goal.returns
returns c =
    let given = c.args in
    joined_three c.fill_three-f.ensures
    (words_vim given.op (is_big given.big) given.count (caret_of given.row given.col given.held given.sticky)) c.if-f-ne0.false
    _ _ refl refl c.word_vim.ensures

pub returns-then-f-ne0 : goal.returns-then-f-ne0
returns-then-f-ne0 c = search parts

pub slice_bounds-word_vim-end : goal.slice_bounds-word_vim-end
slice_bounds-word_vim-end c = search parts

pub slice_bounds-word_vim-end-2 : goal.slice_bounds-word_vim-end-2
slice_bounds-word_vim-end-2 c = search parts

pub slice_bounds-word_vim-end-3 : goal.slice_bounds-word_vim-end-3
slice_bounds-word_vim-end-3 c = search parts
