-- `list_tokens::tokens::token_of` meets its contract: the tests of the definition in their order. Assumes nothing.
use Rattle.lists.proofs.Kit.{sym, ◌∙◌, rules, eq-eqb, ne_eqb}
use Rattle.list_tokens.proofs.tokens.token_of.Goals as goal

pub returns-then-is_at : goal.returns-then-is_at
returns-then-is_at c = rw (sym c.is_at.ensures ∙ c.if-is_at.true)

pub returns-then-t-ne0 : goal.returns-then-t-ne0
returns-then-t-ne0 c = rw (
  sym c.is_at.ensures ∙ c.if-is_at.false,
  ← c.range_of-t.ensures,
  ne_eqb _ _ c.if-t-ne0.true,
)

pub returns : goal.returns
returns c = rw (
  sym c.is_at.ensures ∙ c.if-is_at.false,
  ← c.range_of-t.ensures,
  eq-eqb _ _ c.if-t-ne0.false,
) c.code_of.ensures
