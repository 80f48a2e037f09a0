-- `tokens::end_size` meets its contract: a character, or a number. Assumes nothing.
use borrow.Author.Rules.{rules}
use Rattle.vim_writer.proofs.TokenLaws.{end_char, end_number}
use Rattle.vim_writer.proofs.tokens.end_size.Goals as goal

pub returns-then-char : goal.returns-then-char
returns-then-char c = search (rules, end_char)

pub returns : goal.returns
returns c = search (rules, end_number)
