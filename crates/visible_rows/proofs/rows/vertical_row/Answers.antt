-- `visible_rows::rows::vertical_row` meets its contract: a step below 0 goes up from the row that shows, any other down. Assumes nothing.
use Rattle.lists.proofs.Kit.{ap, ◌∙◌, false}
use Rattle.lists.specs.Rounds.{rounds}
use Rattle.visible_rows.specs.Visible.{step_row}
use Rattle.visible_rows.proofs.Signed.{goes_down, counts_up, goes_up}
use Rattle.visible_rows.proofs.rows.vertical_row.Goals as goal

pub unsigned-requires : goal.unsigned-requires
unsigned-requires c =
    let given = c.args in
    counts_up given.folds.now given.rows given.row given.delta c.ranges.delta c.requires.turns c.if-delta-lt0.true _
    c.negated.ensures

pub returns-then-delta-lt0 : goal.returns-then-delta-lt0
returns-then-delta-lt0 c =
    let given = c.args in
    record {
      row = c.rows_on.ensures.row ∙
          ap (rounds (step_row given.folds.now given.rows false) c.unsigned.result) c.shown_row-from.ensures.row ∙
          goes_up given.folds.now given.rows given.row given.delta c.ranges.delta c.requires.turns c.if-delta-lt0.true _
          c.negated.ensures _ c.unsigned.ensures;
      inside = c.rows_on.ensures.inside;
    }

pub returns : goal.returns
returns c =
    let given = c.args in
    record {
      row = c.rows_on-2.ensures.row ∙ goes_down given.folds.now given.rows given.row given.delta c.ranges.delta c.if-delta-lt0.false _
          c.unsigned-2.ensures;
      inside = c.rows_on-2.ensures.inside;
    }
