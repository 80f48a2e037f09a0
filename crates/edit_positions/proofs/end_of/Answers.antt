-- `edit_positions::end_of` meets its contract: the last row of what is put in, found from its end. Assumes nothing.
use Rattle.edit_positions.proofs.Formula.{end_stands, end_from_lem, end_row, end_below}
use Rattle.edit_positions.proofs.end_of.Goals as goal

pub returns-then-s-eq0 : goal.returns-then-s-eq0
returns-then-s-eq0 c =
    let given = c.args in
    end_row given.points.now _ c.separators-s.ensures.count given.p c.if-s-eq0.true

pub up-l-requires : goal.up-l-requires
up-l-requires c =
    end_stands c.args.points.now _ c.separators-s.ensures.count

pub overflow_sub-result : goal.overflow_sub-result
overflow_sub-result c =
    end_from_lem c.args.points.now _ c.separators-s.ensures.count c.up-l.result c.up-l.ensures

pub returns : goal.returns
returns c =
    let given = c.args in
    end_below given.points.now _ c.separators-s.ensures.count given.p c.up-l.result c.if-s-eq0.false c.up-l.ensures
