-- `word_by_class::fold_jumps::jump_fwd` meets its contract, by the fold at the spot's row. Assumes nothing.
use Rattle.lists.proofs.Kit.{ap, sym, ◌∙◌}
use Rattle.word_by_class.specs.Rounds.{to_last}
use Rattle.word_by_class.proofs.Asks.{ready_row, span_at, span_rows}
use Rattle.word_by_class.proofs.fold_jumps.jump_fwd.Goals as goal

pub closed_fold_at-requires : goal.closed_fold_at-requires
closed_fold_at-requires c =
    let by_ready_row = ready_row c.requires in
    (c.requires.good, by_ready_row.0, by_ready_row.1)

pub row_last-requires : goal.row_last-requires
row_last-requires c =
    record {
      classes = c.requires.classes;
      from =
          record {
            stands = c.requires.stands;
            in_row = (span_rows c.requires c.closed_fold_at.ensures _ _ c.in-Some.is).1;
          };
    }

pub returns-in-Some : goal.returns-in-Some
returns-in-Some c =
    c.row_last.ensures ∙ ap (to_last c.args.c.now c.args.p.at)
    (sym c.in-Some.is ∙ span_at c.requires c.closed_fold_at.ensures)

pub returns-in-None : goal.returns-in-None
returns-in-None c =
    ap (to_last c.args.c.now c.args.p.at) (sym c.in-None.is ∙ span_at c.requires c.closed_fold_at.ensures)
