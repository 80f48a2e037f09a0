use Rattle.lists.proofs.Kit.{arith}
use Rattle.chars.specs.Width.{width_with}
use Rattle.row_offsets.proofs.Places.{offset_inside, offset_past}
use Rattle.row_offsets.proofs.char_in.Goals as goal

pub overflow_cast-result : goal.overflow_cast-result
overflow_cast-result c =
    let given = c.args in
    let width = width_with given.by in
    omega (
      arith,
      (offset_inside width given.row.now given.start given.end given.offset c.part_of-inside.ensures
          c.fitting-k.ensures.count c.if-k-inside.true).1,
    )

pub overflow_add-result : goal.overflow_add-result
overflow_add-result c =
    let given = c.args in
    let width = width_with given.by in
    omega (
      arith,
      (offset_inside width given.row.now given.start given.end given.offset c.part_of-inside.ensures
          c.fitting-k.ensures.count c.if-k-inside.true).1,
    )

pub returns-then-k-inside : goal.returns-then-k-inside
returns-then-k-inside c =
    let given = c.args in
    (offset_inside (width_with given.by) _ _ _ _ c.part_of-inside.ensures c.fitting-k.ensures.count
    c.if-k-inside.true).0

pub returns : goal.returns
returns c =
    let given = c.args in
    offset_past (width_with given.by) _ _ _ _ c.part_of-inside.ensures c.fitting-k.ensures.count
    c.if-k-inside.false
