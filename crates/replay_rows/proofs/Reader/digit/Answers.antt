-- `Reader::digit` meets its contract, by the test of the definition. Assumes nothing.
use Rattle.lists.proofs.Kit.{lt-ltb, le-ltb}
use Rattle.replay_rows.specs.Rows.{digit}
use Rattle.replay_rows.proofs.Reader.digit.Goals as goal

pub returns-then-v-gt4294967295 : goal.returns-then-v-gt4294967295
unfolding digit
returns-then-v-gt4294967295 c = rw (lt-ltb _ _ c.if-v-gt4294967295.true) c.spoilt.ensures

pub returns : goal.returns
unfolding digit
returns c = rw (le-ltb _ _ c.if-v-gt4294967295.false)
