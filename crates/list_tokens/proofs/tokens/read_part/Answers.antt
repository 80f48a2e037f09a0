-- `list_tokens::tokens::read_part` meets its contract: the part up to the next comma, trimmed, is the token's. Assumes nothing.
use Rattle.lists.proofs.Kit.{ap, ◌∙◌, arith, rules}
use Rattle.list_tokens.specs.Grammar.{token_of}
use Rattle.lists.proofs.Splits.{next_most}
use Rattle.list_tokens.proofs.TokenLaws.{step_is}
use Rattle.list_tokens.proofs.tokens.read_part.Goals as goal

pub slice_bounds-trimmed-end : goal.slice_bounds-trimmed-end
slice_bounds-trimmed-end c =
    let given = c.args in
    let by_next_most = next_most 44 given.list.now given.from c.requires in
    search rules

pub overflow_add-result : goal.overflow_add-result
overflow_add-result c =
    omega (arith, next_most 44 c.args.list.now c.args.from c.requires)

pub returns : goal.returns
returns c =
    step_is c.args.list.now c.args.from c.find-e.result c.token_of-t.result c.find-e.ensures
    (c.token_of-t.ensures ∙ ap token_of c.trimmed.ensures)
