-- `tokens::token_size` meets its contract: with its `^`, or without. Assumes nothing.
use Rattle.lists.proofs.Kit.{ap, arith, length, rules}
use Rattle.vim_writer.proofs.TokenLaws.{item_most, token_out, token_in}
use Rattle.vim_writer.proofs.tokens.token_size.Goals as goal

pub overflow_add-result : goal.overflow_add-result
overflow_add-result c = omega (arith, c.item_size-n.ensures, item_most c.args.t)

pub returns-then-t : goal.returns-then-t
returns-then-t c = omega (arith, c.item_size-n.ensures, ap length (token_out c.args.t c.if-t.true))

pub returns : goal.returns
returns c = search (rules, token_in)
