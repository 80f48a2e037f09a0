-- `list_parts::refusals::refused_char` meets its contract: the test is that of the definition. Assumes nothing.
use Rattle.lists.proofs.Kit.{sym, ◌∙◌}
use Rattle.list_parts.proofs.refusals.refused_char.Goals as goal

pub returns-then-is_scalar : goal.returns-then-is_scalar
returns-then-is_scalar c = rw (sym c.is_scalar.ensures ∙ c.if-is_scalar.true)

pub returns : goal.returns
returns c = rw (sym c.is_scalar.ensures ∙ c.if-is_scalar.false)
