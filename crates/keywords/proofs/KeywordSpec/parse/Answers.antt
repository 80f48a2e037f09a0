-- `keywords::KeywordSpec::parse` meets its contract: refusal 7, then what reading the list gives. Assumes nothing.
use Rattle.lists.proofs.Kit.{sym, ◌∙◌}
use Rattle.keywords.proofs.RefusalLaws.{parsed_refused}
use Rattle.keywords.proofs.KeywordSpec.parse.Goals as goal

pub returns-then-n-ne0 : goal.returns-then-n-ne0
returns-then-n-ne0 c = c.refused.ensures ∙ rw (← c.refused_list-n.ensures) (parsed_refused _ _ c.if-n-ne0.true _)

pub returns : goal.returns
returns c = c.read_all.ensures ∙ rw (sym c.refused_list-n.ensures ∙ c.if-n-ne0.false)
