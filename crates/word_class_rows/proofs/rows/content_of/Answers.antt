use Rattle.lists.proofs.Kit.{ap, sym, ◌∙◌, ℕ, ◌-◌}
use Rattle.word_class_rows.proofs.rows.content_of.Goals as goal

pub returns-then-last_empty : goal.returns-then-last_empty
returns-then-last_empty c =
    rw (sym c.last_empty.ensures ∙ c.if-last_empty.true) (c.saturating_sub.ensures ∙ ap (λ (n : ℕ). n - 1) c.requires)

pub returns : goal.returns
returns c =
    rw (sym c.last_empty.ensures ∙ c.if-last_empty.false) c.requires
