-- `cases::verdict_of` meets its contract: the tests of the definition, and the parts that it names. Assumes nothing.
use Rattle.lists.proofs.Kit.{arith, le-leb, lt-leb}
use Rattle.replay.specs.Cases.{verdict_of}
use Rattle.replay.proofs.cases.verdict_of.Goals as goal

pub returns-then-end-lt13 : goal.returns-then-end-lt13
unfolding verdict_of
returns-then-end-lt13 c = rw (lt-leb 13 _ c.if-end-lt13.true)

-- the counts are u32
pub overflow_cast-folds : goal.overflow_cast-folds
overflow_cast-folds c = omega (arith, c.type_inv.ns 10)

pub overflow_add-folds : goal.overflow_add-folds
overflow_add-folds c = omega (arith, c.type_inv.ns 10)

pub overflow_cast-list : goal.overflow_cast-list
overflow_cast-list c = omega (arith, c.type_inv.ns 11)

pub overflow_add-list : goal.overflow_add-list
overflow_add-list c = omega (arith, c.type_inv.ns 11, c.type_inv.ns 10)

pub overflow_cast-stored : goal.overflow_cast-stored
overflow_cast-stored c = omega (arith, c.type_inv.ns 12)

pub overflow_add-stored : goal.overflow_add-stored
overflow_add-stored c = omega (arith, c.type_inv.ns 12, c.type_inv.ns 11, c.type_inv.ns 10)

pub returns-then-stored-end : goal.returns-then-stored-end
unfolding verdict_of
returns-then-stored-end c = rw (le-leb 13 _ c.if-end-lt13.false, lt-leb _ _ c.if-stored-end.true)

pub returns : goal.returns
unfolding verdict_of
returns c =
    rw (le-leb 13 _ c.if-end-lt13.false, le-leb _ _ c.if-stored-end.false, ← c.head_of.ensures) c.by_group.ensures
