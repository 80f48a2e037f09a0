-- `tokens::put_end` meets its contract: a character, or a number. Assumes nothing.
use Rattle.lists.proofs.Kit.{ap, arith, length, rules}
use Rattle.vim_writer.proofs.TokenLaws.{end_char, end_number}
use Rattle.vim_writer.proofs.RoomLaws.{wrote_as}
use Rattle.vim_writer.proofs.tokens.put_end.Goals as goal

pub put-requires : goal.put-requires
put-requires c = omega (arith, ap length (end_char c.args.char c.args.c c.if-char.true))

pub put_number-requires : goal.put_number-requires
put_number-requires c =
    omega (arith, ap length (end_number c.args.char c.args.c c.if-char.false))

pub returns-then-char : goal.returns-then-char
returns-then-char c = search (rules, end_char, wrote_as)

pub returns : goal.returns
returns c = search (rules, end_number, wrote_as)
