use borrow.Author.Rules.{rules}
use Rattle.list_tokens.proofs.TokenLaws.{at_not, at_one}
use Rattle.list_tokens.proofs.tokens.is_at.Goals as goal

pub returns-then-p-ne1 : goal.returns-then-p-ne1
returns-then-p-ne1 c = at_not c.args.p.now c.if-p-ne1.true

pub returns : goal.returns
returns c = at_one c.args.p.now c.if-p-ne1.false
