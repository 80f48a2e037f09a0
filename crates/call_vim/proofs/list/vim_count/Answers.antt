-- `list::vim_count` meets its contract: a refusal is handed on with its place, and a table has few tokens. Assumes nothing.
use Rattle.lists.proofs.Kit.{ap, arith, eq-eqb, ne_eqb}
use Rattle.vim_reader.specs.declared.VimRead.{VimRead}
use Rattle.vim_reader.proofs.Answers.{read_few}
use Rattle.call_signs.specs.declared.Placed.TheVariants.{Refused}
use Rattle.call_vim.specs.Vim.{vim_count}
use Rattle.call_vim.proofs.Bounds.{read_place}
use Rattle.call_vim.proofs.list.vim_count.Goals as goal

pub placed_at-requires : goal.placed_at-requires
placed_at-requires c = rw c.parse-r.ensures (read_place c.args.list.now)

pub returns-then-r-ne0 : goal.returns-then-r-ne0
unfolding vim_count
returns-then-r-ne0 c = rw (← c.parse-r.ensures, ne_eqb _ 0 c.if-r-ne0.true) (ap Refused c.placed_at.ensures)

pub overflow_cast-result : goal.overflow_cast-result
overflow_cast-result c =
    let same = ap (λ (r : VimRead). r.spec.len) c.parse-r.ensures in
    omega (arith, same, read_few c.args.list.now)

pub returns : goal.returns
unfolding vim_count
returns c = rw (← c.parse-r.ensures, eq-eqb _ 0 c.if-r-ne0.false)
