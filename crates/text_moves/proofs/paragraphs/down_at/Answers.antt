-- `paragraphs::down_at` meets its contract: the last row with content has its last column, any other column 0.
-- Assumes nothing.
use Rattle.lists.proofs.Kit.{ap, sym, ◌∙◌, ℕ, ◌-◌, eq-eqb, ne_eqb}
use Rattle.text.specs.Text.{content_rows, position}
use Rattle.text_moves.proofs.paragraphs.down_at.Goals as goal

pub returns-then-row-last : goal.returns-then-row-last
returns-then-row-last c =
    let given = c.args in
    rw (eq-eqb given.l.row (content_rows given.t.now - 1) (c.if-row-last.true ∙ c.requires.last_is))
    (ap (position given.l.row) (c.saturating_sub.ensures ∙ ap (λ (x : ℕ). x - 1) c.row_len-n.ensures))

pub returns : goal.returns
returns c =
    let given = c.args in
    rw (ne_eqb given.l.row (content_rows given.t.now - 1) (λ e. c.if-row-last.false (e ∙ sym c.requires.last_is)))
