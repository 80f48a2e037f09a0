-- `sequences::low` meets its contract, lead by lead. Assumes nothing.
use mathlib.Core.Path.{sym}
use Rattle.utf8.proofs.Leads.{low_e0, low_f0, low_else}
use Rattle.utf8.proofs.sequences.low.Goals as goal

pub returns-then-a-eq224 : goal.returns-then-a-eq224
returns-then-a-eq224 c = sym (low_e0 _ c.if-a-eq224.true)

pub returns-then-a-eq240 : goal.returns-then-a-eq240
returns-then-a-eq240 c = sym (low_f0 _ c.if-a-eq240.true)

pub returns : goal.returns
returns c = sym (low_else _ c.if-a-eq224.false c.if-a-eq240.false)
