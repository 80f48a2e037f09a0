use Rattle.lists.proofs.Kit.{arith, length-set}
use Rattle.row_segment.proofs.segment.put_segment.Goals as goal

pub bounds-out-at-2 : goal.bounds-out-at-2
bounds-out-at-2 c = simp length-set (omega arith)
