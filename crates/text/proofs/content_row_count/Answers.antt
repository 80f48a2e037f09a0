-- `text::content_row_count` meets its contract: an accepted text is short, so that its rows fit a u32.
-- Assumes nothing.
use Rattle.lists.proofs.Kit.{sym, ap, ◌∙◌, arith, eq-eqb, ne_eqb}
use Rattle.text.specs.declared.Counted.TheVariants.{Rows}
use Rattle.text_check.proofs.Accepted.{accepted_short}
use Rattle.text.proofs.Parts.{count_le}
use Rattle.text.proofs.Content.{content_near}
use Rattle.text.proofs.content_row_count.Goals as goal

pub returns-then-f-ne0 : goal.returns-then-f-ne0
returns-then-f-ne0 c = rw (← c.text_refusal-f.ensures, ne_eqb _ _ c.if-f-ne0.true)

pub overflow_cast-result : goal.overflow_cast-result
overflow_cast-result c =
    let text_now = c.args.t.now in
    omega (
      arith,
      c.content_rows-n.ensures,
      content_near text_now,
      count_le text_now,
      accepted_short text_now (sym c.text_refusal-f.ensures ∙ c.if-f-ne0.false),
    )

pub returns : goal.returns
returns c = rw (← c.text_refusal-f.ensures, eq-eqb _ _ c.if-f-ne0.false) (ap Rows c.content_rows-n.ensures)
