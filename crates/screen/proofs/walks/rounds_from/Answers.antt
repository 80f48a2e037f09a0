-- `walks::rounds_from` meets its contract: a place that can move goes as its spot does. Assumes nothing.
use Rattle.lists.proofs.Kit.{sym, ap, ◌∙◌, ℕ, arith}
use Rattle.chars.specs.Width.{width_with}
use Rattle.visible_rows.specs.Visible.{toward}
use Rattle.screen.proofs.Landing.{from_inside, from_on, from_off, from_stuck}
use Rattle.screen.proofs.walks.rounds_from.Goals as goal

pub glide-requires : goal.glide-requires
glide-requires c =
    let given = c.args in
    let width = width_with given.by in
    let inside = from_inside width given.t.now given.folds.now given.word given.width given.down given.n c.requires.sets_out.some
    (record { row = given.l.row; col = given.col }) given.offset c.requires.ahead_is in
    record {
      walks = record { ready = c.requires.sets_out.ready; spot = record { line = c.requires.sets_out.line; inside = inside } };
      small = c.requires.small;
    }

pub returns-then-ahead-gt0 : goal.returns-then-ahead-gt0
returns-then-ahead-gt0 c =
    let given = c.args in
    let width = width_with given.by in
    from_on width given.t.now given.folds.now given.word given.width given.down given.n c.requires.sets_out.some
    (record { row = given.l.row; col = given.col }) given.offset c.requires.ahead_is c.glide.ensures c.if-ahead-gt0.true

pub visible_row-requires : goal.visible_row-requires
visible_row-requires c =
    let required = c.requires.sets_out in
    record { folds_good = required.ready.folds_good; in_rows = omega (arith, required.line.in_row, required.ready.all_rows) }

pub glide-requires-in-Some : goal.glide-requires-in-Some
glide-requires-in-Some c =
    let given = c.args in
    let width = width_with given.by in
    let inside = from_inside width given.t.now given.folds.now given.word given.width given.down given.n c.requires.sets_out.some
    (record { row = given.l.row; col = given.col }) given.offset c.requires.ahead_is in
    record {
      walks = record { ready = c.requires.sets_out.ready; spot = record { line = c.requires.sets_out.line; inside = inside } };
      small = c.requires.small;
    }

pub returns-in-Some : goal.returns-in-Some
returns-in-Some c =
    let given = c.args in
    let width = width_with given.by in
    let found = ap (λ (k : ℕ). toward given.folds.now k given.down given.l.row) (sym c.requires.sets_out.ready.all_rows)
    ∙ sym c.visible_row.ensures ∙
    c.in-Some.is in
    from_off width given.t.now given.folds.now given.word given.width given.down given.n c.requires.sets_out.some
    (record { row = given.l.row; col = given.col }) given.offset c.requires.ahead_is c.glide-in-Some.ensures _ (omega (arith, c.if-ahead-gt0.false)) found

pub returns-in-None : goal.returns-in-None
returns-in-None c =
    let given = c.args in
    let width = width_with given.by in
    let none = ap (λ (k : ℕ). toward given.folds.now k given.down given.l.row) (sym c.requires.sets_out.ready.all_rows)
    ∙ sym c.visible_row.ensures ∙
    c.in-None.is in
    from_stuck width given.t.now given.folds.now given.word given.width given.down given.n c.requires.sets_out.some
    (record { row = given.l.row; col = given.col }) given.offset c.requires.ahead_is (omega (arith, c.if-ahead-gt0.false)) none
