-- `vim_words::by_vim::word_by_vim` meets its contract: each refusal in its turn, and else the motion by the list's table. Assumes nothing.
use Rattle.lists.proofs.Kit.{ap, sym, ◌∙◌, List, ℕ, take}
use Rattle.vim_grammar.specs.Tokens.{in_vim}
use Rattle.vim_reader.specs.declared.VimRead.{VimRead}
use Rattle.vim_reader.specs.Table.{kept}
use Rattle.motions.specs.WordMoves.{folds_of, word_caret}
use Rattle.motions.proofs.Fitting.{part_count}
use Rattle.vim_words.specs.ByVim.{in_vim_list}
use Rattle.vim_words.proofs.Refusing.{entered_number, entered_none, read_ready, answer_first, answer_bad, answer_refused, answer_given}
use Rattle.vim_words.proofs.by_vim.word_by_vim.Goals as goal

pub slice_bounds-own-end : goal.slice_bounds-own-end
slice_bounds-own-end c = part_count c.args.folds.now c.taken-n.ensures.inside

-- text, caret or folds
pub returns-then-f-ne0 : goal.returns-then-f-ne0
returns-then-f-ne0 c =
    let given = c.args in
    let folds = folds_of given.m given.folds.now in
    let by_entered_number = entered_number given.t.now _ folds given.k _ c.enter-e.ensures c.taken-n.ensures.part
    c.or_folds-f.ensures in
    answer_first given.t.now folds given.list.now given.big given.m given.stop given.count given.k _ by_entered_number c.if-f-ne0.true

-- the list goes wrong
pub returns-then-p-eq17 : goal.returns-then-p-eq17
returns-then-p-eq17 c =
    let given = c.args in
    let folds = folds_of given.m given.folds.now in
    let by_entered_number = entered_number given.t.now _ folds given.k _ c.enter-e.ensures c.taken-n.ensures.part
    c.or_folds-f.ensures in
    answer_bad given.t.now folds given.list.now given.big given.m given.stop given.count given.k _ by_entered_number c.if-f-ne0.false
    c.parse-p.result c.parse-p.ensures c.if-p-eq17.true

-- it is refused with another number
pub returns-then-p-ne0 : goal.returns-then-p-ne0
returns-then-p-ne0 c =
    let given = c.args in
    let folds = folds_of given.m given.folds.now in
    let by_entered_number = entered_number given.t.now _ folds given.k _ c.enter-e.ensures c.taken-n.ensures.part
    c.or_folds-f.ensures in
    answer_refused given.t.now folds given.list.now given.big given.m given.stop given.count given.k _ by_entered_number
    c.if-f-ne0.false c.parse-p.result c.parse-p.ensures c.if-p-eq17.false c.if-p-ne0.true

pub to_word-requires : goal.to_word-requires
to_word-requires c =
    let given = c.args in
    let none = entered_none given.t.now _ given.k _ c.enter-e.ensures (sym c.or_folds-f.ensures ∙ c.if-f-ne0.false) in
    let ready = read_ready given.list.now c.parse-p.result c.parse-p.ensures c.if-p-ne0.false in
    record { accepted = none.0; good = none.1; table = ready }

pub returns : goal.returns
returns c =
    let given = c.args in
    let folds = folds_of given.m given.folds.now in
    let by_entered_number = entered_number given.t.now _ folds given.k _ c.enter-e.ensures c.taken-n.ensures.part
    c.or_folds-f.ensures in
    answer_given given.t.now folds given.list.now given.big given.m given.stop given.count given.k _ by_entered_number
    c.if-f-ne0.false c.parse-p.result c.parse-p.ensures _ c.if-p-ne0.false (c.to_word.ensures
    ∙ ap (λ (r : VimRead). word_caret given.t.now (take c.taken-n.result given.folds.now) (in_vim (kept r.spec)) given.big given.m
    given.stop given.count given.k) c.parse-p.ensures
    ∙ ap (λ (own : List ℕ). word_caret given.t.now own (in_vim_list given.list.now) given.big given.m given.stop given.count given.k)
    c.taken-n.ensures.part)
