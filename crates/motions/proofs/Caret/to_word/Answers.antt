-- `Caret::to_word` meets its contract: the caret's spot goes in, and the spot that the walk ended on is a row and a column again.
-- Assumes nothing.
use Rattle.lists.proofs.Kit.{ap, ◌∙◌, List, ℕ, ◌-◌, arith, take}
use Rattle.text.specs.declared.Position.{Position}
use Rattle.list_tokens.specs.Tokens.{any_token}
use Rattle.keywords.specs.Table.{kept}
use Rattle.word_kinds.specs.Places.{kind_of}
use Rattle.word_rounds.specs.Rounds.{word_motion}
use Rattle.steps.proofs.Stepping.{up_start}
use Rattle.motions.specs.WordMoves.{word_caret}
use Rattle.motions.proofs.Fitting.{part_count}
use Rattle.motions.proofs.Wording.{place_of_lem, word_ready, spot_fits, caret_of_spot}
use Rattle.motions.proofs.Caret.to_word.Goals as goal

pub slice_bounds-own-end : goal.slice_bounds-own-end
slice_bounds-own-end c = part_count c.args.folds.now c.taken-n.ensures.inside

-- what the walk requires, of the folds that the motion takes
pub word_motion-r-requires : goal.word_motion-r-requires
word_motion-r-requires c =
    let given = c.args in
    let required = c.requires.word in
    rw c.taken-n.ensures.part (record {
      folded = word_ready given.t.now _ given.self given.e required.accepted required.folds_good;
      short = c.requires.short;
    })

-- a row begins at or before each of its offsets
pub overflow_sub-r : goal.overflow_sub-r
overflow_sub-r c =
    let walked = c.word_motion-r in
    omega (arith, up_start _ _ walked.result.row c.up-l.ensures, walked.ensures.inside.from)

-- and the walk ends on a spot of the text
pub placed-requires : goal.placed-requires
placed-requires c =
    spot_fits c.up-l.result.start c.requires.word.accepted.brief c.word_motion-r.ensures.inside

pub returns : goal.returns
returns c =
    let given = c.args in
    let walked = c.word_motion-r in
    c.placed.ensures ∙ caret_of_spot given.t.now given.self walked.result _ _
    (ap (λ (x : ℕ). walked.result.at - x) (up_start _ _ walked.result.row c.up-l.ensures)) (walked.ensures.place ∙ ap
    (λ (from : Position). word_motion given.t.now (take c.taken-n.result given.folds.now) (kind_of (any_token (kept given.spec)) given.big)
    given.big given.m given.stop
    given.count from) (place_of_lem given.t.now given.self given.e c.requires.word.accepted))
    ∙ ap (λ (own : List ℕ). word_caret given.t.now own (any_token (kept given.spec)) given.big given.m given.stop given.count given.self)
    c.taken-n.ensures.part
