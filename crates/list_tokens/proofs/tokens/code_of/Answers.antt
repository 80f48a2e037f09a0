-- `list_tokens::tokens::code_of` meets its contract: the number's value, or the single character. Assumes nothing.
use Rattle.lists.proofs.Kit.{sym, ◌∙◌, rules}
use Rattle.list_tokens.proofs.tokens.code_of.Goals as goal

pub returns-in-Some : goal.returns-in-Some
returns-in-Some c = rw (sym c.read_number.ensures ∙ c.in-Some.is) c.range.ensures

pub returns-in-None : goal.returns-in-None
returns-in-None c = rw (sym c.read_number.ensures ∙ c.in-None.is) c.single_of.ensures
