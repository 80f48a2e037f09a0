-- `keywords::KeywordSpec::matches` meets its contract: refusal 2, then 8, then the answer. Assumes nothing.
use Rattle.lists.proofs.Kit.{ap, sym, ◌∙◌, le-leb, lt-leb}
use Rattle.keywords.specs.declared.Matched.TheVariants.{Is}
use Rattle.keywords.proofs.RefusalLaws.{matched_refused}
use Rattle.keywords.proofs.KeywordSpec.matches.Goals as goal

pub returns-then-n-ne0 : goal.returns-then-n-ne0
returns-then-n-ne0 c = rw (← c.refused_char-n.ensures) (matched_refused _ _ c.if-n-ne0.true _)

pub returns-then-self-gt128 : goal.returns-then-self-gt128
returns-then-self-gt128 c = rw (sym c.refused_char-n.ensures ∙ c.if-n-ne0.false, lt-leb _ _ c.if-self-gt128.true)

pub returns : goal.returns
returns c = rw (sym c.refused_char-n.ensures ∙ c.if-n-ne0.false, le-leb _ _ c.if-self-gt128.false)
    (ap Is c.any_holds.ensures)
