use Rattle.lists.proofs.Kit.{◌≡◌, ap, ◌∙◌, arith}
use Rattle.text.specs.Text.{row_at}
use Rattle.text.specs.declared.Line.{Line}
use Rattle.text.proofs.Stands.{line_there}
use Rattle.vertical.proofs.Accepted.{row_ready}
use Rattle.vertical.proofs.moves.aimed.Goals as goal

pub line_from-l-requires : goal.line_from-l-requires
line_from-l-requires c =
    let required = c.requires in
    (required.line, required.all_rows, omega (arith, required.row_good.in_rows, required.all_rows))

pub row-line-requires : goal.row-line-requires
row-line-requires c =
    line_there c.args.t.now c.line_from-l.result _ c.line_from-l.ensures c.requires.row_good.in_rows

pub char_col_in-c-requires : goal.char_col_in-c-requires
char_col_in-c-requires c =
    let own = ap (λ (x : Line). row_at c.args.t.now x.row) c.line_from-l.ensures in
    record { widths = c.requires.widths; fits = row_ready c.requires.row_good (c.row-line.ensures ∙ own) }

pub returns : goal.returns
returns c =
    let own : c.row-line.result.now ≡ row_at c.args.t.now c.args.row = c.row-line.ensures ∙
    ap (λ (x : Line). row_at c.args.t.now x.row) c.line_from-l.ensures in
    rw (← own, ← c.char_col_in-c.ensures, ← c.saturating_sub.ensures) c.min.ensures
