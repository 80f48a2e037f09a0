use Rattle.lists.proofs.Kit.{◌∙◌, sym}
use Rattle.call_rows.proofs.characters.tested.Goals as goal

pub returns-then-not-is_scalar : goal.returns-then-not-is_scalar
returns-then-not-is_scalar c = rw (sym c.is_scalar.ensures ∙ c.if-not-is_scalar.true)

pub returns : goal.returns
returns c = rw (sym c.is_scalar.ensures ∙ c.if-not-is_scalar.false)
