-- `fold_stretches::stretches::apart` meets its contract: the fold hides nothing, lies below the stretch, or above it. Assumes nothing.
use Rattle.lists.proofs.Kit.{arith}
use Rattle.fold_stretches.proofs.Asunder.{apart_open, apart_one, apart_low, apart_high}
use Rattle.fold_stretches.proofs.stretches.apart.Goals as goal

pub returns-then-closed-ne1 : goal.returns-then-closed-ne1
returns-then-closed-ne1 c = apart_open c.if-closed-ne1.true

pub returns-then-s-e : goal.returns-then-s-e
returns-then-s-e c = apart_one c.if-s-e.true

pub returns-then-last-w : goal.returns-then-last-w
returns-then-last-w c = apart_low (omega arith) (omega arith) (omega arith)

pub returns-then-last-row : goal.returns-then-last-row
returns-then-last-row c = apart_low (omega arith) (omega arith) (omega arith)

pub returns-then-w-first : goal.returns-then-w-first
returns-then-w-first c = apart_high (omega arith) (omega arith) (omega arith)

pub returns : goal.returns
returns c = apart_high (omega arith) (omega arith) (omega arith)
