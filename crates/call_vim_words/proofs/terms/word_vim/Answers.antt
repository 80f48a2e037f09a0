-- `terms::word_vim` meets its contract: it hands on what the motion answers. Assumes nothing.
use Rattle.lists.proofs.Kit.{sym, ap, subst, ◌∙◌, Option, Bool}
use Rattle.word_rounds.specs.declared.Motion.{Motion}
use Rattle.motions.specs.declared.Caret.{Caret}
use Rattle.call_bytes.proofs.Replies.{replied_of}
use Rattle.call_folds.specs.Terms.{is_big}
use Rattle.call_classes.specs.ByTerm.{term_of}
use Rattle.call_vim_words.specs.ByTerm.{by_vim_term, vim_moved, PlaceIn}
use Rattle.call_vim_words.proofs.Places.{place_in}
use Rattle.call_vim_words.proofs.terms.word_vim.Goals as goal

pub place_vim-requires : goal.place_vim-requires
place_vim-requires c =
    let given = c.args in
    subst PlaceIn (sym c.by_term.ensures)
    (place_in c.term_of-a.result (is_big given.big) given.count c.caret_of-k.result given.text.now given.folds.now
    given.list.now)

pub returns : goal.returns
returns c =
    let given = c.args in
    let caret_of_result = c.caret_of-k.result in
    replied_of vim_moved (c.by_term.ensures
    ∙ ap (λ (a : Option (Motion × Bool)). by_vim_term a (is_big given.big) given.count caret_of_result given.text.now given.folds.now given.list.now)
    c.term_of-a.ensures
    ∙ ap (λ (x : Caret). by_vim_term (term_of given.op) (is_big given.big) given.count x given.text.now given.folds.now given.list.now)
    c.caret_of-k.ensures) c.place_vim.ensures
