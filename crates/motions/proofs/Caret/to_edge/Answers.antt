-- `Caret::to_edge` meets its contract: the edge is a row of the text. Assumes nothing.
use Rattle.lists.proofs.Kit.{ap, ◌∙◌}
use Rattle.text.specs.declared.Line.{Line}
use Rattle.text.proofs.Stands.{line_there}
use Rattle.vertical.proofs.Edges.{viewport_within}
use Rattle.text_moves.specs.Rows.{at_row}
use Rattle.text_moves.proofs.Staying.{row_in}
use Rattle.motions.specs.Carets.{put}
use Rattle.motions.proofs.Fitting.{fits}
use Rattle.motions.proofs.Caret.to_edge.Goals as goal

pub at_line-q-requires : goal.at_line-q-requires
at_line-q-requires c =
    let given = c.args in
    record {
      line = line_there given.t.now _ _ c.viewport_line-l.ensures (viewport_within given.t.now given.edge given.top given.height given.offset);
      brief = c.requires.brief;
    }

pub placed-requires : goal.placed-requires
placed-requires c =
    let given = c.args in
    fits c.requires.brief (c.at_line-q.ensures ∙ ap (λ (l : Line). at_row given.t.now l.row) c.viewport_line-l.ensures)
    (row_in given.t.now _ (viewport_within given.t.now given.edge given.top given.height given.offset))

pub returns : goal.returns
returns c =
    let given = c.args in
    c.placed.ensures
    ∙ ap (put given.self) (c.at_line-q.ensures ∙ ap (λ (l : Line). at_row given.t.now l.row) c.viewport_line-l.ensures)
