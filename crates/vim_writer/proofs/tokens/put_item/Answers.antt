-- `tokens::put_item` meets its contract: kind by kind. Assumes nothing.
use Rattle.lists.proofs.Kit.{ap, sym, arith, length, rules}
use Rattle.print.proofs.Laws.{wrote_then, wrote_none}
use Rattle.vim_writer.proofs.TokenLaws.{item_none, item_letters, item_one, item_range, range_length}
use Rattle.vim_writer.proofs.RoomLaws.{wrote_as}
use Rattle.vim_writer.proofs.tokens.put_item.Goals as goal

pub put-requires : goal.put-requires
put-requires c =
    omega (arith, ap length (item_letters c.args.t c.if-t-eq1.true))

pub put_end-requires : goal.put_end-requires
put_end-requires c =
    omega (arith, ap length (item_one c.args.t c.if-t-eq2.true))

pub put_end-dash-requires : goal.put_end-dash-requires
put_end-dash-requires c =
    omega (
      arith,
      range_length c.args.t c.if-t-eq0.false c.if-t-eq1.false c.if-t-eq2.false,
    )

pub put-next-requires : goal.put-next-requires
put-next-requires c =
    omega (
      arith,
      range_length c.args.t c.if-t-eq0.false c.if-t-eq1.false c.if-t-eq2.false,
      c.put_end-dash.ensures.next,
      c.put_end-dash.ensures.size,
    )

pub put_end-requires-2 : goal.put_end-requires-2
put_end-requires-2 c =
    omega (
      arith,
      range_length c.args.t c.if-t-eq0.false c.if-t-eq1.false c.if-t-eq2.false,
      c.put_end-dash.ensures.next,
      c.put_end-dash.ensures.size,
      c.put-next.ensures.next,
      c.put-next.ensures.size,
    )

pub returns : goal.returns
returns c =
    wrote_as (sym (item_range c.args.t c.if-t-eq0.false c.if-t-eq1.false c.if-t-eq2.false))
    (wrote_then c.put_end-dash.ensures (wrote_then c.put-next.ensures c.put_end-2.ensures))

pub returns-then-t-eq0 : goal.returns-then-t-eq0
returns-then-t-eq0 c = search (rules, wrote_none, item_none, wrote_as)

pub returns-then-t-eq1 : goal.returns-then-t-eq1
returns-then-t-eq1 c = search (rules, item_letters, wrote_as)

pub returns-then-t-eq2 : goal.returns-then-t-eq2
returns-then-t-eq2 c = search (rules, item_one, wrote_as)
