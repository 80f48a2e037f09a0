-- `tokens::item_size` meets its contract: kind by kind. Assumes nothing.
use Rattle.lists.proofs.Kit.{arith, rules}
use Rattle.vim_writer.proofs.TokenLaws.{end_most, item_none, item_letters, item_one, range_length}
use Rattle.vim_writer.proofs.tokens.item_size.Goals as goal

pub overflow_add-result : goal.overflow_add-result
overflow_add-result c =
    omega (arith, c.end_size-n.ensures, end_most c.args.t.lochar c.args.t.lo)

pub overflow_add-result-2 : goal.overflow_add-result-2
overflow_add-result-2 c =
    omega (
      arith,
      c.end_size-n.ensures,
      c.end_size-m.ensures,
      end_most c.args.t.lochar c.args.t.lo,
      end_most c.args.t.hichar c.args.t.hi,
    )

pub returns : goal.returns
returns c =
    omega (
      arith,
      c.end_size-n.ensures,
      c.end_size-m.ensures,
      range_length c.args.t c.if-t-eq0.false c.if-t-eq1.false c.if-t-eq2.false,
    )

pub returns-then-t-eq0 : goal.returns-then-t-eq0
returns-then-t-eq0 c = search (rules, item_none)

pub returns-then-t-eq1 : goal.returns-then-t-eq1
returns-then-t-eq1 c = search (rules, item_letters)

pub returns-then-t-eq2 : goal.returns-then-t-eq2
returns-then-t-eq2 c = search (rules, item_one)
