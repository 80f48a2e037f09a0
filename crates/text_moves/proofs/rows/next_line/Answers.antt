-- `rows::next_line` meets its contract: from the last row with content on it stays.
-- Assumes nothing.
use Rattle.lists.proofs.Kit.{ap, ◌∙◌, ℕ, ◌+◌, ◌-◌, min, max, arith, le-leb, lt-leb}
use Rattle.text.specs.Text.{content_rows}
use Rattle.positions.proofs.Entered.{accepted_rows}
use Rattle.text_moves.specs.Rows.{at_row}
use Rattle.text_moves.proofs.rows.next_line.Goals as goal

pub overflow_sub-last : goal.overflow_sub-last
overflow_sub-last c = omega (arith, accepted_rows c.requires)

pub returns-then-p-last : goal.returns-then-p-last
returns-then-p-last c =
    rw (le-leb (content_rows c.args.t.now - 1) c.args.p.row (omega (arith, c.requires.content_rows, c.if-p-last.true)))

pub at_row-requires : goal.at_row-requires
at_row-requires c =
    record { accepted = c.requires; in_row = omega (arith, c.min.ensures, accepted_rows c.requires) }

pub returns : goal.returns
returns c =
    let given = c.args in
    rw (lt-leb (content_rows given.t.now - 1) given.p.row (omega (arith, c.requires.content_rows, c.if-p-last.false)))
    (c.at_row.ensures ∙ ap (at_row given.t.now) (c.min.ensures ∙
    ap (λ (n : ℕ). min (given.p.row + n) (given.e.content - 1)) c.max.ensures ∙
    ap (λ (n : ℕ). min (given.p.row + max given.count 1) (n - 1)) c.requires.content_rows))
