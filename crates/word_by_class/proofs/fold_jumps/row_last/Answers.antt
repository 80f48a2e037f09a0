-- `word_by_class::fold_jumps::row_last` meets its contract: the end of a row that is not empty has a place before it. Assumes nothing.
use Rattle.lists.proofs.Kit.{◌≡◌, true, false, arith, eq-eqb, ne_eqb}
use Rattle.word_places.specs.Places.{is_empty}
use Rattle.word_class_rows.specs.Rows.{end_of}
use Rattle.word_by_class.proofs.Asks.{last_there}
use Rattle.word_by_class.proofs.fold_jumps.row_last.Goals as goal

pub returns-then-class_at-eq-EMPTY_ROW : goal.returns-then-class_at-eq-EMPTY_ROW
returns-then-class_at-eq-EMPTY_ROW c =
    let empty : is_empty c.args.c.now (end_of c.args.c.now c.args.row) ≡ true =
    rw (← c.end_of-end.ensures, ← c.class_at.ensures) (eq-eqb _ _ c.if-class_at-eq-EMPTY_ROW.true) in
    rw empty c.end_of-end.ensures

pub overflow_sub-result : goal.overflow_sub-result
overflow_sub-result c =
    let full : is_empty c.args.c.now (end_of c.args.c.now c.args.row) ≡ false =
    rw (← c.end_of-end.ensures, ← c.class_at.ensures) (ne_eqb _ _ c.if-class_at-eq-EMPTY_ROW.false) in
    omega (arith, c.end_of-end.ensures, last_there c.requires.classes c.args.row c.requires.from.in_row full)

pub returns : goal.returns
returns c =
    let full : is_empty c.args.c.now (end_of c.args.c.now c.args.row) ≡ false =
    rw (← c.end_of-end.ensures, ← c.class_at.ensures) (ne_eqb _ _ c.if-class_at-eq-EMPTY_ROW.false) in
    rw (full, ← c.end_of-end.ensures)
