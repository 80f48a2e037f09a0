use Rattle.lists.proofs.Kit.{arith}
use Rattle.text.proofs.Parts.{count_le}
use Rattle.text.proofs.Stretches.{pass_all}
use Rattle.text.proofs.offsets.rows_from.Goals as goal

pub overflow_add-result : goal.overflow_add-result
overflow_add-result c =
    omega (arith, pass_all c.args.t.now c.requires _ c.row_count.ensures, count_le c.args.t.now)

pub returns : goal.returns
returns c =
    pass_all c.args.t.now c.requires _ c.row_count.ensures
