-- `paragraphs::paragraph_prev` meets its contract: the rounds lead to a row, or nowhere.
-- Assumes nothing.
use Rattle.lists.proofs.Kit.{ap, false, ℕ, ◌-◌, arith}
use Rattle.text.proofs.Content.{content_near}
use Rattle.text_moves.specs.Paragraphs.{up_at}
use Rattle.text_moves.proofs.Led.{led}
use Rattle.text_moves.proofs.paragraphs.paragraph_prev.Goals as goal

pub overflow_sub-last : goal.overflow_sub-last
overflow_sub-last c = omega (arith, c.requires.content_rows, content_near c.args.t.now)

pub find_paragraph-requires : goal.find_paragraph-requires
find_paragraph-requires c =
    let required = c.requires in
    record {
      round = record { line = required.line; is_last = ap (λ (n : ℕ). n - 1) required.content_rows; brief = required.brief };
      some = omega (arith, c.max.ensures);
    }

pub returns-in-Some : goal.returns-in-Some
returns-in-Some c =
    let given = c.args in
    ap (up_at given.p) (led given.t.now false given.p.row c.in-Some.is c.find_paragraph.ensures.answer
    c.max.ensures)

pub returns-in-None : goal.returns-in-None
returns-in-None c =
    let given = c.args in
    ap (up_at given.p) (led given.t.now false given.p.row c.in-None.is c.find_paragraph.ensures.answer
    c.max.ensures)
