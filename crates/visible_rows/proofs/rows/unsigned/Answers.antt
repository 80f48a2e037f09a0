use Rattle.visible_rows.proofs.Signed.{unsigned_fits}
use Rattle.visible_rows.proofs.rows.unsigned.Goals as goal

pub overflow_cast-result : goal.overflow_cast-result
overflow_cast-result c = unsigned_fits c.args.z c.ranges.z c.requires
