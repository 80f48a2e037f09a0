-- `lists::in_table` meets its contract: the character, then the list. Assumes nothing.
use Rattle.lists.proofs.Kit.{◌∙◌, ap, sym}
use Rattle.keywords.specs.declared.Parsed.{Parsed}
use Rattle.call_rows.specs.Lists.{in_table, by_table}
use Rattle.call_rows.proofs.keyword_lists.in_table.Goals as goal

pub returns-then-not-is_scalar : goal.returns-then-not-is_scalar
unfolding in_table
returns-then-not-is_scalar c = rw (sym c.is_scalar.ensures ∙ c.if-not-is_scalar.true)

pub returns : goal.returns
unfolding in_table
returns c =
    rw (sym c.is_scalar.ensures ∙ c.if-not-is_scalar.false)
    (c.by_table.ensures ∙ ap (λ (p : Parsed). by_table p c.args.x) c.parse.ensures)
