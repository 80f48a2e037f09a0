-- `blocks_for` meets its contract: one block where there are no folds, and else as many as they take. Assumes nothing.
use Rattle.lists.proofs.Kit.{sym, arith}
use Rattle.fold_blocks.proofs.Files.{blocks_some, blocks_none}
use Rattle.fold_writer.proofs.blocks_for.Goals as goal

pub returns-then-n-eq0 : goal.returns-then-n-eq0
returns-then-n-eq0 c = sym (blocks_none _ c.if-n-eq0.true)

pub returns : goal.returns
returns c = sym (blocks_some _ (omega (arith, c.if-n-eq0.false)))
