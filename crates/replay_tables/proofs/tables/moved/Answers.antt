-- `tables::moved` meets its contract: the tests of the definition in their order. Assumes nothing.
use Rattle.lists.proofs.Kit.{lt-ltb, le-ltb}
use Rattle.replay_tables.specs.Verdicts.{moved_verdict}
use Rattle.replay_tables.proofs.tables.moved.Goals as goal

pub returns-then-op-lt100 : goal.returns-then-op-lt100
unfolding moved_verdict
returns-then-op-lt100 c = rw (lt-ltb _ 100 c.if-op-lt100.true)

pub returns-then-op-lt200 : goal.returns-then-op-lt200
unfolding moved_verdict
returns-then-op-lt200 c =
    rw (le-ltb _ 100 c.if-op-lt100.false, lt-ltb _ 200 c.if-op-lt200.true) c.motion.ensures

pub returns-then-op-lt300 : goal.returns-then-op-lt300
unfolding moved_verdict
returns-then-op-lt300 c =
    rw (
      le-ltb _ 100 c.if-op-lt100.false,
      le-ltb _ 200 c.if-op-lt200.false,
      lt-ltb _ 300 c.if-op-lt300.true,
    ) c.word.ensures

pub returns-then-op-lt600 : goal.returns-then-op-lt600
unfolding moved_verdict
returns-then-op-lt600 c =
    rw (
      le-ltb _ 100 c.if-op-lt100.false,
      le-ltb _ 200 c.if-op-lt200.false,
      le-ltb _ 300 c.if-op-lt300.false,
      lt-ltb _ 600 c.if-op-lt600.true,
    ) c.vertical.ensures

pub returns-then-op-lt700 : goal.returns-then-op-lt700
unfolding moved_verdict
returns-then-op-lt700 c =
    rw (
      le-ltb _ 100 c.if-op-lt100.false,
      le-ltb _ 200 c.if-op-lt200.false,
      le-ltb _ 300 c.if-op-lt300.false,
      le-ltb _ 600 c.if-op-lt600.false,
      lt-ltb _ 700 c.if-op-lt700.true,
    ) c.viewport.ensures

pub returns-then-op-lt800 : goal.returns-then-op-lt800
unfolding moved_verdict
returns-then-op-lt800 c =
    rw (
      le-ltb _ 100 c.if-op-lt100.false,
      le-ltb _ 200 c.if-op-lt200.false,
      le-ltb _ 300 c.if-op-lt300.false,
      le-ltb _ 600 c.if-op-lt600.false,
      le-ltb _ 700 c.if-op-lt700.false,
      lt-ltb _ 800 c.if-op-lt800.true,
    ) c.seek.ensures

pub returns : goal.returns
unfolding moved_verdict
returns c =
    rw (
      le-ltb _ 100 c.if-op-lt100.false,
      le-ltb _ 200 c.if-op-lt200.false,
      le-ltb _ 300 c.if-op-lt300.false,
      le-ltb _ 600 c.if-op-lt600.false,
      le-ltb _ 700 c.if-op-lt700.false,
      le-ltb _ 800 c.if-op-lt800.false,
    ) c.kept.ensures
