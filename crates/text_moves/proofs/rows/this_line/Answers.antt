-- `rows::this_line` meets its contract: from the last row with content on it stays, if it was to go down.
-- Assumes nothing.
use Rattle.lists.proofs.Kit.{◌≡◌, ap, ◌∙◌, Bool, true, false, ◌&&◌, ℕ, ◌+◌, ◌-◌, min, max, arith, ltb, leb}
use Rattle.text.specs.Text.{content_rows}
use Rattle.positions.proofs.Entered.{accepted_rows}
use Rattle.text_moves.specs.Rows.{at_row}
use Rattle.text_moves.proofs.rows.this_line.Goals as goal

-- the test, by the numbers that the contract has
stays : (row count content n m : ℕ) (b : Bool) → m ≡ max count 1 → content ≡ n → (ltb 0 (m - 1) && leb (content - 1) row) ≡ b →
    (ltb 0 (max count 1 - 1) && leb (n - 1) row) ≡ b
stays row count content n m b e q h = rw (← e, ← q) h

pub overflow_sub-last : goal.overflow_sub-last
overflow_sub-last c = omega (arith, accepted_rows c.requires)

pub returns-then-n-p : goal.returns-then-n-p
returns-then-n-p c =
    let given = c.args in
    rw (stays given.p.row given.count given.e.content (content_rows given.t.now) _ true c.max-n.ensures
    c.requires.content_rows c.if-n-p.true)

pub at_row-requires : goal.at_row-requires
at_row-requires c =
    record { accepted = c.requires; in_row = omega (arith, c.min.ensures, accepted_rows c.requires) }

pub returns : goal.returns
returns c =
    let given = c.args in
    rw (stays given.p.row given.count given.e.content (content_rows given.t.now) _ false c.max-n.ensures
    c.requires.content_rows c.if-n-p.false) (c.at_row.ensures ∙ ap (at_row given.t.now) (c.min.ensures ∙
    ap (λ (n : ℕ). min (given.p.row + (n - 1)) (given.e.content - 1)) c.max-n.ensures ∙
    ap (λ (n : ℕ). min (given.p.row + (max given.count 1 - 1)) (n - 1)) c.requires.content_rows))
