-- `tables::tabled` meets its contract: the tests of the definition, and the parts that it names. Assumes nothing.
use Rattle.lists.proofs.Kit.{arith, eq-eqb, ne_eqb, le-leb, lt-leb}
use Rattle.replay_tables.specs.Verdicts.{tabled_verdict}
use Rattle.replay_tables.proofs.tables.tabled.Goals as goal

pub returns-then-k-eq0 : goal.returns-then-k-eq0
unfolding tabled_verdict
returns-then-k-eq0 c = rw (eq-eqb _ 0 c.if-k-eq0.true) c.fill.ensures

pub returns-then-end-lt2 : goal.returns-then-end-lt2
unfolding tabled_verdict
returns-then-end-lt2 c = rw (ne_eqb _ 0 c.if-k-eq0.false, lt-leb 2 _ c.if-end-lt2.true)

-- the count is a u32
pub overflow_cast-own : goal.overflow_cast-own
overflow_cast-own c = omega (arith, c.type_inv.list 1)

pub overflow_add-own : goal.overflow_add-own
overflow_add-own c = omega (arith, c.type_inv.list 1)

pub returns-then-own-end : goal.returns-then-own-end
unfolding tabled_verdict
returns-then-own-end c =
    rw (ne_eqb _ 0 c.if-k-eq0.false, le-leb 2 _ c.if-end-lt2.false, lt-leb _ _ c.if-own-end.true)

pub returns : goal.returns
unfolding tabled_verdict
returns c =
    rw (ne_eqb _ 0 c.if-k-eq0.false, le-leb 2 _ c.if-end-lt2.false, le-leb _ _ c.if-own-end.false) c.by_parts.ensures
