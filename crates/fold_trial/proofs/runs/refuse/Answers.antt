-- `refuse` meets its contract: the row's pieces, one after another. Assumes nothing.
use Rattle.lists.proofs.Kit.{arith}
use Rattle.print.proofs.Laws.{wrote_then, length_decimal}
use Rattle.fold_trial.specs.Runs.{refusal_row}
use Rattle.fold_trial.proofs.runs.refuse.Goals as goal

pub put_decimal-b-requires : goal.put_decimal-b-requires
put_decimal-b-requires c =
    omega (arith, length_decimal c.args.f)

pub put-requires : goal.put-requires
put-requires c =
    omega (arith, length_decimal c.args.f)

pub returns : goal.returns
unfolding refusal_row
returns c =
    wrote_then (wrote_then c.put-a.ensures c.put_decimal-b.ensures) c.put.ensures
