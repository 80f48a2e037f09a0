-- `sequences::high` meets its contract, lead by lead. Assumes nothing.
use mathlib.Core.Path.{sym}
use Rattle.utf8.proofs.Leads.{high_ed, high_f4, high_else}
use Rattle.utf8.proofs.sequences.high.Goals as goal

pub returns-then-a-eq237 : goal.returns-then-a-eq237
returns-then-a-eq237 c = sym (high_ed _ c.if-a-eq237.true)

pub returns-then-a-eq244 : goal.returns-then-a-eq244
returns-then-a-eq244 c = sym (high_f4 _ c.if-a-eq244.true)

pub returns : goal.returns
returns c = sym (high_else _ c.if-a-eq237.false c.if-a-eq244.false)
