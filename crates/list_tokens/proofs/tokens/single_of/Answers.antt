use Rattle.lists.proofs.Kit.{◌∙◌, rules}
use Rattle.list_tokens.proofs.TokenLaws.{single_not, single_one}
use Rattle.list_tokens.proofs.tokens.single_of.Goals as goal

pub returns-then-p-ne1 : goal.returns-then-p-ne1
returns-then-p-ne1 c = single_not c.args.p.now c.if-p-ne1.true

pub returns : goal.returns
returns c = c.range.ensures ∙ single_one c.args.p.now c.if-p-ne1.false
