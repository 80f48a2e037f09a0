-- `rows::bottom` meets its contract: the last row with content, or the row of that number.
-- Assumes nothing.
use Rattle.lists.proofs.Kit.{ap, ◌∙◌, ℕ, ◌-◌, min, arith, eq-eqb, ne_eqb}
use Rattle.positions.proofs.Entered.{accepted_rows}
use Rattle.text_moves.specs.Rows.{at_row}
use Rattle.text_moves.proofs.rows.bottom.Goals as goal

pub overflow_sub-last : goal.overflow_sub-last
overflow_sub-last c = omega (arith, accepted_rows c.requires)

pub at_row-requires : goal.at_row-requires
at_row-requires c = record { accepted = c.requires; in_row = omega (arith, accepted_rows c.requires) }

pub returns-then-count-eq0 : goal.returns-then-count-eq0
returns-then-count-eq0 c =
    rw (eq-eqb c.args.count 0 c.if-count-eq0.true)
    (c.at_row.ensures ∙ ap (λ (n : ℕ). at_row c.args.t.now (n - 1)) c.requires.content_rows)

pub at_row-requires-2 : goal.at_row-requires-2
at_row-requires-2 c = record { accepted = c.requires; in_row = omega (arith, c.min.ensures, accepted_rows c.requires) }

pub returns : goal.returns
returns c =
    let given = c.args in
    rw (ne_eqb given.count 0 c.if-count-eq0.false) (c.at_row-2.ensures ∙
    ap (at_row given.t.now) (c.min.ensures ∙ ap (λ (n : ℕ). min (given.count - 1) (n - 1)) c.requires.content_rows))
