-- `check_rows` meets its contract: the rows after the edit are those before it, less the stretch's and with those of the code points. Assumes nothing.
use Rattle.lists.proofs.Kit.{◌≡◌, sym, ap, ◌∙◌, ℕ, ◌+◌, ◌-◌, max, arith, take, length-take-le}
use Rattle.text.specs.Text.{row_count}
use Rattle.text.proofs.Parts.{count_le}
use Rattle.row_table.specs.Table.{table_refusal}
use Rattle.edit_positions.specs.After.{text_after}
use Rattle.edit_rows.proofs.Tables.{rows_after}
use Rattle.edit_rows.proofs.check_rows.Goals as goal

pub slice_bounds-t-end : goal.slice_bounds-t-end
slice_bounds-t-end c = sym (length-take-le _ _ c.requires.stretch.fits)

pub overflow_add-after : goal.overflow_add-after
overflow_add-after c =
    let given = c.args in
    let front = take given.len given.text.now in
    omega (
      arith,
      c.requires.rows_are,
      c.separators.ensures,
      count_le front,
      length-take-le given.len given.text.now c.requires.stretch.fits,
      c.requires.stretch.brief,
    )

pub returns : goal.returns
returns c =
    let given = c.args in
    let front = take given.len given.text.now in
    let new = text_after front given.p given.q given.points.now in
    let after_is : given.before - (given.q.row - given.p.row) + c.separators.result ≡ row_count new =
    omega (arith, c.requires.rows_are, c.separators.ensures.count, rows_after c.requires.stretch given.points.now) in
    let need : c.max-need.result ≡ max (row_count front) (row_count new) = c.max-need.ensures ∙ (λ i. max (c.requires.rows_are i) (after_is i)) in
    record {
      refusal_is = c.table_refusal-refusal.ensures ∙ ap (λ (n : ℕ). table_refusal n front given.starts.now given.content) need;
      before_is = c.requires.rows_are;
      after_is = after_is;
    }
