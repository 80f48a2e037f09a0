-- `entry::entered_matches` meets its contract: the character, then the list. Assumes nothing.
use Rattle.lists.proofs.Kit.{ap, sym, ◌∙◌}
use Rattle.list_signs.specs.declared.Entered.{Entered}
use Rattle.call_signs.specs.Entry.{entered_matches, by_entry}
use Rattle.call_signs.proofs.Bounds.{entry_place}
use Rattle.call_signs.proofs.entry.entered_matches.Goals as goal

pub returns-then-not-is_scalar : goal.returns-then-not-is_scalar
unfolding entered_matches
returns-then-not-is_scalar c = rw (sym c.is_scalar.ensures ∙ c.if-not-is_scalar.true)

pub by_entry-requires : goal.by_entry-requires
by_entry-requires c = rw c.enter.ensures (entry_place c.args.list.now)

pub returns : goal.returns
unfolding entered_matches
returns c =
    rw (sym c.is_scalar.ensures ∙ c.if-not-is_scalar.false)
    (c.by_entry.ensures ∙ ap (λ (e : Entered). by_entry e c.args.x) c.enter.ensures)
