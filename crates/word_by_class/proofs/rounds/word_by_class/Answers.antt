-- `word_by_class::rounds::word_by_class` meets its contract: the place of the row and the column, the motion, and the row and the column of its place.
-- Assumes nothing.
use Rattle.lists.proofs.Kit.{ap, ◌∙◌, ℕ, ◌+◌, arith}
use Rattle.word_class_rows.specs.Rows.{row_of, start_of}
use Rattle.word_class_rows.proofs.Counting.{row_first}
use Rattle.word_by_class.specs.Rounds.{motion}
use Rattle.word_by_class.proofs.Fits.{motion_in}
use Rattle.word_by_class.proofs.Asks.{asked_ready, start_low, position_is}
use Rattle.word_by_class.proofs.rounds.word_by_class.Goals as goal

pub content_of-requires : goal.content_of-requires
content_of-requires c =
    omega (arith, c.ends-rows.ensures, row_first c.args.c.now)

pub motion-j-requires : goal.motion-j-requires
motion-j-requires c =
    asked_ready c.requires _ _ _ (omega (arith, c.ends-rows.ensures, row_first c.args.c.now)) c.content_of.ensures
    c.start_of.ensures

pub moved-to-requires : goal.moved-to-requires
moved-to-requires c =
    let given = c.args in
    let ready = asked_ready c.requires c.ends-rows.result c.content_of.result c.start_of.result
    (omega (arith, c.ends-rows.ensures, row_first given.c.now)) c.content_of.ensures c.start_of.ensures in
    record {
      stands = ready.stands;
      within = omega (
        arith,
        c.motion-j.ensures,
        motion_in c.requires.classes given.folds.now (c.start_of.result + given.at.col) ready.inside
            given.big given.m given.stop given.count,
      );
    }

pub overflow_sub-result : goal.overflow_sub-result
overflow_sub-result c =
    let given = c.args in
    let ready = asked_ready c.requires c.ends-rows.result c.content_of.result c.start_of.result
    (omega (arith, c.ends-rows.ensures, row_first given.c.now)) c.content_of.ensures c.start_of.ensures in
    let high = motion_in c.requires.classes given.folds.now (c.start_of.result + given.at.col) ready.inside given.big given.m
    given.stop given.count in
    let to = c.moved-to.ensures in
    let low = start_low c.requires.classes c.moved-to.result.at (omega (arith, high, c.motion-j.ensures, to.place)) in
    omega (arith, low, to.place, c.row_start.ensures, ap (start_of given.c.now) to.stands.row_is)

pub returns : goal.returns
returns c =
    let given = c.args in
    let to = c.moved-to.ensures in
    position_is given.c.now c.moved-to.result.row c.row_start.result c.motion-j.result _
    (to.stands.row_is ∙ ap (row_of given.c.now) to.place) c.row_start.ensures (c.motion-j.ensures
    ∙ ap (λ (x : ℕ). motion given.c.now given.folds.now given.big given.m given.stop given.count (x + given.at.col))
    c.start_of.ensures)
