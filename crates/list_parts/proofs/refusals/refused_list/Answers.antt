-- `list_parts::refusals::refused_list` meets its contract: the tests are those of the definition. Assumes nothing.
use Rattle.lists.proofs.Kit.{sym, ◌∙◌, le-leb, lt-leb}
use Rattle.list_parts.proofs.refusals.refused_list.Goals as goal

-- too long
pub returns-then-list-gt1024 : goal.returns-then-list-gt1024
returns-then-list-gt1024 c = rw (lt-leb _ _ c.if-list-gt1024.true)

-- a value that is no scalar value
pub returns-then-not-all_scalar : goal.returns-then-not-all_scalar
returns-then-not-all_scalar c = rw (le-leb _ _ c.if-list-gt1024.false, sym c.all_scalar.ensures ∙ c.if-not-all_scalar.true)

pub returns : goal.returns
returns c = rw (le-leb _ _ c.if-list-gt1024.false, sym c.all_scalar.ensures ∙ c.if-not-all_scalar.false)
