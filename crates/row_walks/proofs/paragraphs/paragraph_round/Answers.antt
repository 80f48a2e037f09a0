-- `row_walks::paragraphs::paragraph_round` meets its contract. The invariant of its loop is `Rounding`: from the walk's row on the round leads where it was to.
-- The measure is the rows that are left in the direction. The bits of the signed row are the row. Assumes nothing.
use Rattle.lists.proofs.Kit.{arith}
use mir.Syntax.{w64}
use mir.Val.{Fits}
use mir.Facts.{of_z-to_z, Fits-of_z}
use Rattle.text.proofs.Parts.{count_le}
use Rattle.text.proofs.Content.{content_near}
use Rattle.row_walks.proofs.Ways.{fits_pos}
use Rattle.row_walks.proofs.Rounding.{rounding_bits, rounding_signed, rounding_start, rounding_fits, rounding_line, rounding_found}
use Rattle.row_walks.proofs.Rounding.{rounding_next, rounding_back, rounding_back_fits, rounding_off, rounding_in, rounding_less, rounding_on}
use Rattle.row_walks.proofs.paragraphs.paragraph_round.Goals as goal

pub overflow_cast-end : goal.overflow_cast-end
overflow_cast-end c =
    fits_pos c.args.last
    (omega (arith, c.requires.is_last, c.requires.brief, content_near c.args.t.now, count_le c.args.t.now))

pub overflow_cast-curr : goal.overflow_cast-curr
overflow_cast-curr c =
    fits_pos c.args.from.row (omega (arith, c.requires.line.below, c.requires.line.within, c.requires.brief))

pub loop-here-init : goal.loop-here-init
loop-here-init c =
    let from_fits : Fits w64 c.args.from.row = record { fits = omega (arith, c.requires.line.below, c.requires.line.within, c.requires.brief) } in
    rounding_signed from_fits from_fits (rounding_start c.args.t.now c.args.forward c.args.last c.args.from c.requires)

pub overflow_cast-here : goal.overflow_cast-here
overflow_cast-here c =
    let from_fits : Fits w64 c.args.from.row = record { fits = omega (arith, c.requires.line.below, c.requires.line.within, c.requires.brief) } in
    let held = rounding_bits from_fits c.loop-here.auto.curr c.loop-here.invariant in
    rounding_fits held

pub is_void-void-requires : goal.is_void-void-requires
is_void-void-requires c =
    let from_fits : Fits w64 c.args.from.row = record { fits = omega (arith, c.requires.line.below, c.requires.line.within, c.requires.brief) } in
    let held = rounding_bits from_fits c.loop-here.auto.curr c.loop-here.invariant in
    rounding_line held

pub returns-then-passed-void : goal.returns-then-passed-void
returns-then-passed-void c =
    let from_fits : Fits w64 c.args.from.row = record { fits = omega (arith, c.requires.line.below, c.requires.line.within, c.requires.brief) } in
    let held = rounding_bits from_fits c.loop-here.auto.curr c.loop-here.invariant in
    rounding_found held _ c.is_void-void.ensures c.if-passed-void.true

-- one row on
pub overflow_add-curr : goal.overflow_add-curr
overflow_add-curr c =
    let from_fits : Fits w64 c.args.from.row = record { fits = omega (arith, c.requires.line.below, c.requires.line.within, c.requires.brief) } in
    let held = rounding_bits from_fits c.loop-here.auto.curr c.loop-here.invariant in
    rounding_next held _ c.direction-dir.ensures

-- it is outside: one row back
pub overflow_sub-curr : goal.overflow_sub-curr
overflow_sub-curr c =
    let from_fits : Fits w64 c.args.from.row = record { fits = omega (arith, c.requires.line.below, c.requires.line.within, c.requires.brief) } in
    let held = rounding_bits from_fits c.loop-here.auto.curr c.loop-here.invariant in
    rounding_back held _ c.direction-dir.ensures

pub overflow_cast-edge : goal.overflow_cast-edge
overflow_cast-edge c =
    let from_fits : Fits w64 c.args.from.row = record { fits = omega (arith, c.requires.line.below, c.requires.line.within, c.requires.brief) } in
    let held = rounding_bits from_fits c.loop-here.auto.curr c.loop-here.invariant in
    rounding_back_fits held _ c.direction-dir.ensures

pub returns-then-curr-end : goal.returns-then-curr-end
returns-then-curr-end c =
    let from_fits : Fits w64 c.args.from.row = record { fits = omega (arith, c.requires.line.below, c.requires.line.within, c.requires.brief) } in
    let held = rounding_bits from_fits c.loop-here.auto.curr c.loop-here.invariant in
    rounding_off held _ c.is_void-void.ensures c.if-passed-void.false _ c.direction-dir.ensures c.if-curr-end.true

-- it is not: the walk goes on from there
pub beside-l-requires : goal.beside-l-requires
beside-l-requires c =
    let from_fits : Fits w64 c.args.from.row = record { fits = omega (arith, c.requires.line.below, c.requires.line.within, c.requires.brief) } in
    let held = rounding_bits from_fits c.loop-here.auto.curr c.loop-here.invariant in
    rounding_in held _ c.is_void-void.ensures c.if-passed-void.false _ c.direction-dir.ensures c.if-curr-end.false

pub loop-here-smaller : goal.loop-here-smaller
loop-here-smaller c =
    let from_fits : Fits w64 c.args.from.row = record { fits = omega (arith, c.requires.line.below, c.requires.line.within, c.requires.brief) } in
    let held = rounding_bits from_fits c.loop-here.auto.curr c.loop-here.invariant in
    let next_fits = Fits-of_z (rounding_next held _ c.direction-dir.ensures) in
    rw (of_z-to_z next_fits, of_z-to_z c.loop-here.auto.curr) (rounding_less held _ c.is_void-void.ensures c.if-passed-void.false _ c.direction-dir.ensures
    c.if-curr-end.false)

pub loop-here-preserved : goal.loop-here-preserved
loop-here-preserved c =
    let from_fits : Fits w64 c.args.from.row = record { fits = omega (arith, c.requires.line.below, c.requires.line.within, c.requires.brief) } in
    let held = rounding_bits from_fits c.loop-here.auto.curr c.loop-here.invariant in
    let next_fits = Fits-of_z (rounding_next held _ c.direction-dir.ensures) in
    rounding_signed from_fits next_fits (rounding_on held _ c.is_void-void.ensures c.if-passed-void.false _ c.direction-dir.ensures
    c.if-curr-end.false _ c.beside-l.ensures)
