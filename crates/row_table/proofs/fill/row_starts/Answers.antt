-- `fill::row_starts` meets its contract: by the text, by the places, and filled. An accepted text is short, so that its rows fit a u32.
-- Assumes nothing.
use Rattle.lists.proofs.Kit.{sym, ◌∙◌, arith}
use Rattle.text_check.proofs.Accepted.{accepted_short}
use Rattle.text.proofs.Parts.{count_le}
use Rattle.text.proofs.Content.{content_near}
use Rattle.row_table.proofs.Fills.{fill_refused, fill_short, fill_done}
use Rattle.row_table.proofs.fill.row_starts.Goals as goal

pub returns-then-f-ne0 : goal.returns-then-f-ne0
returns-then-f-ne0 c =
    let given = c.args in
    fill_refused given.t.now given.starts.now c.text_refusal-f.ensures c.if-f-ne0.true

pub returns-then-starts-rows : goal.returns-then-starts-rows
returns-then-starts-rows c =
    let given = c.args in
    fill_short given.t.now given.starts.now (sym c.text_refusal-f.ensures ∙ c.if-f-ne0.false)
    (omega (arith, c.if-starts-rows.true, c.row_count-rows.ensures))

pub put_rows-requires : goal.put_rows-requires
put_rows-requires c =
    let given = c.args in
    record {
      room = omega (arith, c.if-starts-rows.false, c.row_count-rows.ensures);
      short = accepted_short given.t.now (sym c.text_refusal-f.ensures ∙ c.if-f-ne0.false);
    }

pub overflow_cast-result : goal.overflow_cast-result
overflow_cast-result c =
    let text_now = c.args.t.now in
    omega (
      arith,
      c.content_of-content.ensures,
      content_near text_now,
      count_le text_now,
      accepted_short text_now (sym c.text_refusal-f.ensures ∙ c.if-f-ne0.false),
    )

pub returns : goal.returns
returns c =
    let given = c.args in
    fill_done given.t.now given.starts.now (sym c.text_refusal-f.ensures ∙ c.if-f-ne0.false)
    (omega (arith, c.if-starts-rows.false, c.row_count-rows.ensures)) c.content_of-content.ensures c.put_rows.ensures
