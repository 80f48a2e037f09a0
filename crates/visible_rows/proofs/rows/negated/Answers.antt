use Rattle.visible_rows.proofs.Signed.{minus_fits, minus_back}
use Rattle.visible_rows.proofs.rows.negated.Goals as goal

pub overflow_sub-result : goal.overflow_sub-result
overflow_sub-result c = minus_fits c.args.z c.ranges.z c.requires

pub returns : goal.returns
returns c = minus_back c.args.z c.ranges.z c.requires
