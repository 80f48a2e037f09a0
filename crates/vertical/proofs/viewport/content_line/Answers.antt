-- `vertical::viewport::content_line` meets its contract: a text has a row with content. Assumes nothing.
use Rattle.lists.proofs.Kit.{ap, ◌∙◌, ℕ, ◌-◌, min, arith}
use Rattle.text.specs.Offsets.{line_at}
use Rattle.text.proofs.Content.{content_near}
use Rattle.vertical.proofs.viewport.content_line.Goals as goal

pub overflow_sub-content : goal.overflow_sub-content
overflow_sub-content c = omega (arith, c.requires.content_rows, content_near c.args.t.now)

pub row_line-requires : goal.row_line-requires
row_line-requires c =
    (c.requires.all_rows, omega (arith, c.min.ensures, c.requires.all_rows, c.requires.content_rows, content_near c.args.t.now))

pub returns : goal.returns
returns c =
    let given = c.args in
    c.row_line.ensures ∙ ap (line_at given.t.now) (c.min.ensures ∙ ap (λ (n : ℕ). min given.row (n - 1)) c.requires.content_rows)
