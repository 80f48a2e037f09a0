-- `text::offsets::row_len` meets its contract: a row goes from its start to its end.
-- Assumes nothing.
use Rattle.lists.proofs.Kit.{arith}
use Rattle.text.proofs.Stands.{stands_end}
use Rattle.text.proofs.offsets.row_len.Goals as goal

pub returns : goal.returns
returns c = omega (arith, stands_end c.requires)
