-- `entry::by_entry` meets its contract: a refusal is handed on with its place, else the table answers. Assumes nothing.
use Rattle.lists.proofs.Kit.{ap, ◌∙◌, eq-eqb, ne_eqb}
use Rattle.call_signs.specs.declared.Placed.TheVariants.{Refused}
use Rattle.call_signs.specs.Entry.{by_entry, placed_matched}
use Rattle.call_signs.proofs.entry.by_entry.Goals as goal

pub returns-then-e-ne0 : goal.returns-then-e-ne0
unfolding by_entry
returns-then-e-ne0 c = rw (ne_eqb _ 0 c.if-e-ne0.true) (ap Refused c.placed_at.ensures)

pub returns : goal.returns
unfolding by_entry
returns c = rw (eq-eqb _ 0 c.if-e-ne0.false) (c.placed_matched.ensures ∙ ap placed_matched c.matches.ensures)
