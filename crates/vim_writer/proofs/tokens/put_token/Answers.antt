-- `tokens::put_token` meets its contract: with its `^`, or without. Assumes nothing.
use Rattle.lists.proofs.Kit.{ap, sym, arith, length, rules}
use Rattle.print.proofs.Laws.{wrote_then}
use Rattle.vim_writer.proofs.TokenLaws.{token_out, token_in}
use Rattle.vim_writer.proofs.RoomLaws.{wrote_as}
use Rattle.vim_writer.proofs.tokens.put_token.Goals as goal

pub put-next-requires : goal.put-next-requires
put-next-requires c = omega (arith, ap length (token_out c.args.t c.if-t.true))

pub put_item-requires : goal.put_item-requires
put_item-requires c =
    omega (
      arith,
      ap length (token_out c.args.t c.if-t.true),
      c.put-next.ensures.next,
      c.put-next.ensures.size,
    )

pub returns-then-t : goal.returns-then-t
returns-then-t c =
    wrote_as (sym (token_out c.args.t c.if-t.true)) (wrote_then c.put-next.ensures c.put_item.ensures)

pub put_item-requires-2 : goal.put_item-requires-2
put_item-requires-2 c = omega (arith, ap length (token_in c.args.t c.if-t.false))

pub returns : goal.returns
returns c = search (rules, token_in, wrote_as)
