use Rattle.lists.proofs.Kit.{le-ltb, lt-ltb}
use Rattle.call_rows.proofs.flags.setting_of.Goals as goal

pub returns-then-op-lt256 : goal.returns-then-op-lt256
returns-then-op-lt256 c = rw (lt-ltb _ 256 c.if-op-lt256.true)

pub returns : goal.returns
returns c = rw (le-ltb _ 256 c.if-op-lt256.false)
