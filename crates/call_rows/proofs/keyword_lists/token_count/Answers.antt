-- `lists::token_count` meets its contract: a refusal is handed on, and a table has few tokens. Assumes nothing.
use Rattle.lists.proofs.Kit.{arith, eq-eqb, ne_eqb}
use Rattle.call_rows.specs.Lists.{token_count}
use Rattle.keywords.proofs.Agree.{parse_length}
use Rattle.call_rows.proofs.keyword_lists.token_count.Goals as goal

pub returns-then-p-ne0 : goal.returns-then-p-ne0
unfolding token_count
returns-then-p-ne0 c = rw (← c.parse-p.ensures, ne_eqb _ 0 c.if-p-ne0.true)

pub overflow_cast-result : goal.overflow_cast-result
overflow_cast-result c =
    omega (arith, parse_length c.args.list.now c.parse-p.result c.parse-p.ensures c.if-p-ne0.false)

pub returns : goal.returns
unfolding token_count
returns c = rw (← c.parse-p.ensures, eq-eqb _ 0 c.if-p-ne0.false)
