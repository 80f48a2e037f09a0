-- `vim_words::by_vim::to_word` meets its contract: the caret's spot goes in, and the spot that the walk ended on is a row and a column again.
-- Assumes nothing.
use Rattle.lists.proofs.Kit.{ap, ◌∙◌, ℕ, ◌-◌, arith}
use Rattle.text.specs.declared.Position.{Position}
use Rattle.vim_grammar.specs.Tokens.{in_vim}
use Rattle.vim_reader.specs.Table.{kept}
use Rattle.word_kinds.specs.Places.{kind_of}
use Rattle.word_rounds.specs.Rounds.{word_motion}
use Rattle.steps.proofs.Stepping.{up_start}
use Rattle.motions.proofs.Wording.{place_of_lem, word_ready, caret_of_spot}
use Rattle.vim_words.proofs.by_vim.to_word.Goals as goal

pub vim_motion-r-requires : goal.vim_motion-r-requires
vim_motion-r-requires c =
    let given = c.args in
    let required = c.requires in
    record {
      folded = word_ready given.t.now given.own.now given.k given.e required.accepted required.good;
      table = required.table;
    }

-- a row begins at or before each of its offsets
pub overflow_sub-r : goal.overflow_sub-r
overflow_sub-r c =
    let walked = c.vim_motion-r in
    omega (arith, up_start _ _ walked.result.row c.up-l.ensures, walked.ensures.inside.from)

pub returns : goal.returns
returns c =
    let given = c.args in
    let walked = c.vim_motion-r in
    c.placed.ensures ∙ caret_of_spot given.t.now given.k walked.result _ _
    (ap (λ (x : ℕ). walked.result.at - x) (up_start _ _ walked.result.row c.up-l.ensures)) (walked.ensures.place ∙ ap
    (λ (from : Position). word_motion given.t.now given.own.now (kind_of (in_vim (kept given.spec)) given.big) given.big given.m
    given.stop given.count from) (place_of_lem given.t.now given.k given.e c.requires.accepted))
