use Rattle.lists.proofs.Kit.{refl, sym, ap, ◌∙◌, false}
use Rattle.visible_rows.specs.Visible.{row_or}
use Rattle.visible_rows.proofs.Visible.{toward_within}
use Rattle.visible_rows.proofs.rows.shown_row.Goals as goal

-- no fold hides it
pub returns-then-not-is_row_hidden : goal.returns-then-not-is_row_hidden
returns-then-not-is_row_hidden c = record { row = rw (sym c.is_row_hidden.ensures ∙ c.if-not-is_row_hidden.true) refl; inside = c.requires.in_rows }

-- one does, and its first row is found
pub returns-in-Some : goal.returns-in-Some
returns-in-Some c =
    let given = c.args in
    let found = sym c.visible_row.ensures ∙ c.in-Some.is in
    record {
      row = rw (sym c.is_row_hidden.ensures ∙ c.if-not-is_row_hidden.false) (sym (ap (row_or given.row) found));
      inside = toward_within given.folds.now given.rows false given.row _ c.requires.in_rows found;
    }

pub returns-in-None : goal.returns-in-None
returns-in-None c =
    record {
      row = rw (sym c.is_row_hidden.ensures ∙ c.if-not-is_row_hidden.false)
          (sym (ap (row_or c.args.row) (sym c.visible_row.ensures ∙ c.in-None.is)));
      inside = c.requires.in_rows;
    }
