-- `entry::entered_count` meets its contract: a refusal is handed on with its place, and a table has few tokens. Assumes nothing.
use Rattle.lists.proofs.Kit.{ap, sym, ◌∙◌, arith, eq-eqb, ne_eqb}
use Rattle.list_signs.specs.declared.Entered.{Entered}
use Rattle.call_signs.specs.declared.Placed.TheVariants.{Refused}
use Rattle.call_signs.specs.Entry.{entered_count}
use Rattle.call_signs.proofs.Bounds.{entry_place, entry_few}
use Rattle.call_signs.proofs.entry.entered_count.Goals as goal

pub placed_at-requires : goal.placed_at-requires
placed_at-requires c =
    rw c.enter-e.ensures (entry_place c.args.list.now)

pub returns-then-e-ne0 : goal.returns-then-e-ne0
unfolding entered_count
returns-then-e-ne0 c = rw (← c.enter-e.ensures, ne_eqb _ 0 c.if-e-ne0.true) (ap Refused c.placed_at.ensures)

pub overflow_cast-result : goal.overflow_cast-result
overflow_cast-result c =
    let list_now = c.args.list.now in
    let same = ap (λ (e : Entered). e.spec.len) c.enter-e.ensures in
    let none = sym (ap (λ (e : Entered). e.refusal) c.enter-e.ensures) ∙ c.if-e-ne0.false in
    omega (arith, same, entry_few list_now none)

pub returns : goal.returns
unfolding entered_count
returns c = rw (← c.enter-e.ensures, eq-eqb _ 0 c.if-e-ne0.false)
