-- `characters::fact_of` meets its contract, arm by arm. Assumes nothing.
use Rattle.lists.proofs.Kit.{◌∙◌, ap, ne_eqb}
use Rattle.call_bytes.specs.declared.Told.TheVariants.{Value}
use Rattle.call_rows.specs.Characters.{fact, tested}
use Rattle.call_bytes.specs.Reply.{bit}
use Rattle.call_bytes.proofs.Replies.{from_bit}
use Rattle.call_rows.proofs.characters.fact_of.Goals as goal

pub returns-in-0 : goal.returns-in-0
unfolding fact
returns-in-0 c = rw c.in-0.is (ap Value (c.from.ensures ∙ from_bit _ ∙ ap bit c.is_scalar.ensures))

pub returns-in-1 : goal.returns-in-1
unfolding fact
returns-in-1 c =
    rw c.in-1.is
    (c.tested.ensures ∙ ap (tested c.args.x) (c.from-in-1.ensures ∙ from_bit _ ∙ ap bit c.is_white.ensures))

pub returns-in-2 : goal.returns-in-2
unfolding fact
returns-in-2 c =
    rw c.in-2.is
    (c.tested-in-2.ensures ∙ ap (tested c.args.x) (c.from-in-2.ensures ∙ from_bit _ ∙ ap bit c.is_letter.ensures))

pub returns-in-3 : goal.returns-in-3
unfolding fact
returns-in-3 c =
    rw c.in-3.is (c.tested-in-3.ensures ∙ ap (tested c.args.x) c.width.ensures)

pub returns-in-259 : goal.returns-in-259
unfolding fact
returns-in-259 c =
    rw c.in-259.is (c.tested-in-259.ensures ∙ ap (tested c.args.x) c.width-in-259.ensures)

pub returns-in_default : goal.returns-in_default
unfolding fact
returns-in_default c =
    let other = c.in_default.in_default-own.rest in
    rw (ne_eqb _ 0 other.0.0.0.0.1, ne_eqb _ 1 other.0.0.0.1, ne_eqb _ 2 other.0.0.1, ne_eqb _ 3 other.0.1, ne_eqb _ 259 other.1)
