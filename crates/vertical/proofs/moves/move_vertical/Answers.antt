-- `vertical::moves::move_vertical` meets its contract: the row stays and so does the column, or the column is sought in the new row.
-- Assumes nothing.
use Rattle.lists.proofs.Kit.{◌∙◌, arith}
use mir.Facts.{to_z-of_z}
use Rattle.chars.specs.Width.{width_with}
use Rattle.text.proofs.Parts.{count_le}
use Rattle.vertical.proofs.Landed.{reached, stays_is, lands_is}
use Rattle.vertical.proofs.moves.move_vertical.Goals as goal

pub vertical_row-row-requires : goal.vertical_row-row-requires
vertical_row-row-requires c =
    let all = c.requires.ready.all_rows in
    let place = c.requires.ready.accepted.place in
    record {
      walk = record {
        row_good = record { folds_good = rw all place.folds_good; in_rows = omega (arith, place.row_good.in_rows, all) };
        few = omega (arith, count_le c.args.t.now, place.row_good.brief, all);
      };
      turns = rw (to_z-of_z c.ranges.delta) c.requires.turns;
    }

pub returns-then-row-from : goal.returns-then-row-from
returns-then-row-from c =
    let given = c.args in
    let width = width_with given.by in
    let to = c.vertical_row-row.ensures.row ∙
    reached given.folds.now given.l.row c.requires.ready.all_rows (to_z-of_z c.ranges.delta) in
    stays_is width given.t.now given.tabstop given.l.row given.col c.wanted-want.ensures to c.if-row-from.true

-- the row reached is one of the text
pub aimed-c-requires : goal.aimed-c-requires
aimed-c-requires c =
    let required = c.requires.ready in
    let place = required.accepted.place in
    record {
      widths = required.accepted.widths;
      row_good = record {
        brief = place.row_good.brief;
        in_rows = omega (arith, c.vertical_row-row.ensures.inside, required.all_rows);
        stop = place.row_good.stop;
      };
      line = place.line;
      all_rows = required.all_rows;
    }

pub returns : goal.returns
returns c =
    let given = c.args in
    let width = width_with given.by in
    let to = c.vertical_row-row.ensures.row ∙
    reached given.folds.now given.l.row c.requires.ready.all_rows (to_z-of_z c.ranges.delta) in
    lands_is width given.t.now given.tabstop given.l.row given.col c.wanted-want.ensures to c.if-row-from.false c.aimed-c.ensures
