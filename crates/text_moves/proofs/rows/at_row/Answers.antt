-- `rows::at_row` meets its contract: the row found is row `to`. Assumes nothing.
use Rattle.lists.proofs.Kit.{ap, ◌∙◌, arith}
use Rattle.text.specs.declared.Line.{Line}
use Rattle.text.proofs.Stands.{line_there}
use Rattle.text_moves.specs.Rows.{at_row}
use Rattle.text_moves.proofs.rows.at_row.Goals as goal

pub line_from-l-requires : goal.line_from-l-requires
line_from-l-requires c = let required = c.requires in (required.accepted.line, required.accepted.all_rows, required.in_row)

pub at_line-requires : goal.at_line-requires
at_line-requires c =
    let required = c.requires in
    record {
      line = line_there c.args.t.now c.line_from-l.result _ c.line_from-l.ensures (omega (arith, required.accepted.all_rows, required.in_row));
      brief = required.accepted.brief;
    }

pub returns : goal.returns
returns c = c.at_line.ensures ∙ ap (λ (l : Line). at_row c.args.t.now l.row) c.line_from-l.ensures
