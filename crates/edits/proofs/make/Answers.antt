-- `edits::make` meets its contract: what its parts leave is what the definition says. Assumes nothing.
use Rattle.lists.proofs.Kit.{refl, ap, arith}
use Rattle.text.specs.declared.Position.{Position}
use Rattle.text.proofs.Parts.{count_le}
use Rattle.edits.proofs.Making.{end_rows}
use Rattle.edits.proofs.Made.{folds_asked, caret_asked, made}
use Rattle.edits.proofs.make.Goals as goal

pub end_of-end-requires : goal.end_of-end-requires
end_of-end-requires c =
    let required = c.requires in
    (required.first_near, required.points_brief)

pub overflow_cast-r1 : goal.overflow_cast-r1
overflow_cast-r1 c = omega (arith, c.requires.first_near.row_near)

pub overflow_cast-r2 : goal.overflow_cast-r2
overflow_cast-r2 c =
    omega (arith, c.requires.second_row)

pub overflow_sub-added : goal.overflow_sub-added
overflow_sub-added c =
    let given = c.args in
    omega (arith, ap (λ (x : Position). x.row) c.end_of-end.ensures, end_rows given.p given.points.now)

pub overflow_cast-added : goal.overflow_cast-added
overflow_cast-added c =
    let given = c.args in
    omega (
      arith,
      ap (λ (x : Position). x.row) c.end_of-end.ensures,
      end_rows given.p given.points.now,
      count_le given.points.now,
      c.requires.points_brief,
    )

pub overflow_sub-len-2 : goal.overflow_sub-len-2
overflow_sub-len-2 c =
    let required = c.requires in
    omega (arith, required.stretch_order, required.stretch_within)

pub replace_at-requires : goal.replace_at-requires
replace_at-requires c =
    let required = c.requires in
    record { a_le_b = (required.stretch_order, required.stretch_within, required.fits); points_in_bounds = required.new_fits }

pub map_folds-count-requires : goal.map_folds-count-requires
map_folds-count-requires c =
    let required = c.requires in
    record { order = required.rows_order; fit = required.folds_fit; raises = folds_asked required c.end_of-end.ensures }

pub corrected-caret-requires : goal.corrected-caret-requires
corrected-caret-requires c =
    caret_asked c.requires c.end_of-end.ensures

pub returns : goal.returns
returns c =
    made c.requires c.end_of-end.ensures refl c.replace_at.ensures c.map_folds-count.ensures c.corrected-caret.ensures
