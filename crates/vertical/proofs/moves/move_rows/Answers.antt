use Rattle.lists.proofs.Kit.{ap, ◌∙◌, arith}
use lib.IntN.{ℤ}
use Rattle.chars.specs.Width.{width_with}
use Rattle.vertical.specs.Moves.{move_vertical}
use Rattle.visible_rows.proofs.Signed.{read_delta, delta_asked}
use Rattle.vertical.proofs.moves.move_rows.Goals as goal

pub move_vertical-requires : goal.move_vertical-requires
move_vertical-requires c =
    record {
      ready = c.requires;
      turns = delta_asked c.args.down c.args.count (omega (arith, c.ranges.count)) _ c.delta_of.ensures;
    }

pub returns : goal.returns
returns c =
    let given = c.args in
    c.move_vertical.ensures ∙
    ap (λ (z : ℤ). move_vertical (width_with given.by) given.t.now given.folds.now given.tabstop z
    given.l.row given.col given.sticky)
    (read_delta given.down given.count (omega (arith, c.ranges.count)) _ c.delta_of.ensures)
