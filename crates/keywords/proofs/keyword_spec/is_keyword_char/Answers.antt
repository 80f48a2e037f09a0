-- `keywords::is_keyword_char` meets its contract: refusal 2, then 7, then the answer. Assumes nothing.
use Rattle.lists.proofs.Kit.{ap, sym, ◌∙◌}
use Rattle.keywords.specs.declared.Matched.TheVariants.{Is}
use Rattle.keywords.proofs.RefusalLaws.{matched_refused, matched_refused_next}
use Rattle.keywords.proofs.keyword_spec.is_keyword_char.Goals as goal

pub returns-then-n-ne0 : goal.returns-then-n-ne0
returns-then-n-ne0 c = rw (← c.refused_char-n.ensures) (matched_refused _ _ c.if-n-ne0.true _)

pub returns-then-m-ne0 : goal.returns-then-m-ne0
returns-then-m-ne0 c = rw (sym c.refused_char-n.ensures ∙ c.if-n-ne0.false, ← c.refused_list-m.ensures)
    (matched_refused_next _ c.if-m-ne0.true _)

pub returns : goal.returns
returns c = rw (
  sym c.refused_char-n.ensures ∙ c.if-n-ne0.false,
  sym c.refused_list-m.ensures ∙ c.if-m-ne0.false,
) (ap Is c.list_holds.ensures)
