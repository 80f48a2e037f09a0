-- `rows::prev_line` meets its contract: from row 0 there is no row up.
-- Assumes nothing.
use Rattle.lists.proofs.Kit.{ap, ◌∙◌, ℕ, ◌-◌, arith, eq-eqb, ne_eqb}
use Rattle.text_moves.specs.Rows.{at_row}
use Rattle.text_moves.proofs.rows.prev_line.Goals as goal

pub returns-then-p-eq0 : goal.returns-then-p-eq0
returns-then-p-eq0 c = rw (eq-eqb c.args.p.row 0 c.if-p-eq0.true)

pub at_row-requires : goal.at_row-requires
at_row-requires c =
    record { accepted = c.requires; in_row = omega (arith, c.saturating_sub.ensures, c.requires.line.in_row, c.requires.all_rows) }

pub returns : goal.returns
returns c =
    let given = c.args in
    rw (ne_eqb given.p.row 0 c.if-p-eq0.false)
    (c.at_row.ensures ∙ ap (at_row given.t.now) (c.saturating_sub.ensures ∙ ap (λ (n : ℕ). given.p.row - n) c.max.ensures))
