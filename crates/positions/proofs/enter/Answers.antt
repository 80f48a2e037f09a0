-- `enter` meets its contract: it goes through the checks in the order of the table.
-- Assumes nothing.
use Rattle.lists.proofs.Kit.{◌≡◌, ap, sym, ◌∙◌, List, ℕ, arith}
use Rattle.text.specs.Text.{row_count, row_len, content_rows}
use Rattle.text.specs.Offsets.{line_at}
use Rattle.text.specs.declared.Line.{Line}
use Rattle.text.proofs.Stands.{line_there, reached_there, reached_short}
use Rattle.text.specs.declared.Position.{Position}
use Rattle.positions.specs.Positions.{refusal_at, found_at}
use Rattle.positions.proofs.Checks.{refusal_text, refusal_row_lem, refusal_col, refusal_none, by_refused, by_none}
use Rattle.positions.proofs.enter.Goals as goal

-- how long the row found is, and what is handed on
long : (t : List ℕ) (l : Line) (r n : ℕ) → l ≡ line_at t r → n ≡ row_len t l.row → n ≡ row_len t r
long t l r n e m = m ∙ ap (λ (x : Line). row_len t x.row) e

found : (t : List ℕ) (p : Position) (l : Line) (rows content : ℕ) → l ≡ line_at t p.row → rows ≡ row_count t → content ≡ content_rows t →
    record { refusal = 0; start = l.start; rows = rows; content = content } ≡ found_at t p
found t p l rows content e r c =
    let same_start = ap (λ (x : Line). x.start) e in
    λ i. record { refusal = 0; start = same_start i; rows = r i; content = c i }

pub returns-then-f-ne0 : goal.returns-then-f-ne0
returns-then-f-ne0 c =
    let given = c.args in
    by_refused given.t.now given.p _ _ _ c.refused.ensures
    (refusal_text given.t.now given.p _ c.text_refusal-f.ensures c.if-f-ne0.true) c.if-f-ne0.true

-- the text has no such row
pub returns-then-l-p : goal.returns-then-l-p
returns-then-l-p c =
    let given = c.args in
    let none = sym c.text_refusal-f.ensures ∙ c.if-f-ne0.false in
    let beyond = reached_short given.t.now given.p.row c.reach-l.result c.reach-l.ensures c.if-l-p.true in
    by_refused given.t.now given.p _ _ _ c.refused-then-l-p.ensures (refusal_row_lem given.t.now given.p none beyond) (λ z. absurd (omega (arith, z)))

pub row_len-n-requires : goal.row_len-n-requires
row_len-n-requires c =
    let given = c.args in
    let inside = reached_there given.t.now given.p.row c.reach-l.result c.reach-l.ensures c.if-l-p.false in
    line_there given.t.now c.reach-l.result _ (c.reach-l.ensures.there inside) inside

-- the row has no such column
pub returns-then-p-n : goal.returns-then-p-n
returns-then-p-n c =
    let given = c.args in
    let none = sym c.text_refusal-f.ensures ∙ c.if-f-ne0.false in
    let inside = reached_there given.t.now given.p.row c.reach-l.result c.reach-l.ensures c.if-l-p.false in
    let by_long = long given.t.now c.reach-l.result given.p.row _ (c.reach-l.ensures.there inside) c.row_len-n.ensures in
    by_refused given.t.now given.p _ _ _ c.refused-then-p-n.ensures
    (refusal_col given.t.now given.p none inside (omega (arith, by_long, c.if-p-n.true))) (λ z. absurd (omega (arith, z)))

pub rows_from-rows-requires : goal.rows_from-rows-requires
rows_from-rows-requires c =
    let given = c.args in
    let inside = reached_there given.t.now given.p.row c.reach-l.result c.reach-l.ensures c.if-l-p.false in
    line_there given.t.now c.reach-l.result _ (c.reach-l.ensures.there inside) inside

pub returns : goal.returns
returns c =
    let given = c.args in
    let none = sym c.text_refusal-f.ensures ∙ c.if-f-ne0.false in
    let inside = reached_there given.t.now given.p.row c.reach-l.result c.reach-l.ensures c.if-l-p.false in
    let there = c.reach-l.ensures.there inside in
    let by_long = long given.t.now c.reach-l.result given.p.row _ there c.row_len-n.ensures in
    by_none given.t.now given.p (refusal_at given.t.now given.p) _
    (found given.t.now given.p c.reach-l.result _ _ there c.rows_from-rows.ensures c.content_of.ensures)
    (refusal_none given.t.now given.p none inside (omega (arith, by_long, c.if-p-n.false)))
