-- A run of edits from a table that is the text's: after each of them, refused or not, it is the text's again. Assumes nothing.
use Rattle.lists.proofs.Kit.{◌≡◌, refl, sym, ap, ◌∙◌, List, [], ◌∷◌, Bool, true, false, cond, ℕ, length, take, drop, take_at, eqb}
use Rattle.text.specs.Text.{row_count, content_rows}
use Rattle.text.specs.declared.Counted.TheVariants.{Rows, Refused as Not}
use Rattle.row_table.specs.Table.{row_starts}
use Rattle.row_table.specs.Fill.{fill_refusal, table_of, FillsTo}
use Rattle.row_table.proofs.Starts.{rows_length}
use Rattle.edits.specs.Edits.{new_text, kept_by}
use Rattle.edit_rows.specs.declared.EditedRows.{EditedRows}
use Rattle.edit_rows.specs.declared.EditedRows.TheVariants.{Done, Refused}
use Rattle.edit_rows.specs.Rows.{kept_of, answered_by, KeepsTo}
use Rattle.edit_rows.specs.Runs.{Host, Edit, text_of, IsTrue, accepted, number_of, edited, run, kept_from}
use Rattle.edit_rows.proofs.Refills.{refilled_holds}

-- an accepted edit leaves the table of its text, whatever stood there
accepted_true : (h : Host) (e : Edit) → IsTrue (accepted h e)
accepted_true h e =
    let new = new_text h.buf h.sizes e.from e.to e.points in
    let held : text_of (accepted h e) ≡ new = refilled_holds h.buf h.sizes.len new (length new) refl in
    record {
      table = rw held (refilled_holds h.starts (row_count (text_of h)) (row_starts new) (row_count new) (rows_length new));
      count = ap content_rows (sym held);
    }

pub edited_true : (h : Host) (e : Edit) → IsTrue h → IsTrue (edited h e)
unfolding edited
edited_true h e true_before = go (eqb (number_of h e) 0)
  where
    go : (b : Bool) → IsTrue (cond b (accepted h e) h)
    go true = accepted_true h e
    go false = true_before

pub run_true : (es : List Edit) (h : Host) → IsTrue h → IsTrue (run es h)
unfolding run
run_true [] h true_before = true_before
run_true (e ∷ es) h true_before = run_true es (edited h e) (edited_true h e true_before)

-- what a call answers and leaves is that edit
pub call_edits : (h : Host) (e : Edit) {r : EditedRows} {buf folds starts : List ℕ} →
    KeepsTo h.buf h.folds h.starts h.sizes h.content e.from e.to e.points e.caret r buf folds starts →
    kept_from h r buf folds starts ≡ edited h e
unfolding edited answered_by kept_by kept_from
call_edits h e {r} {buf} {folds} {starts} k = same ∙ go (eqb (number_of h e) 0)
  where
    same : kept_from h r buf folds starts ≡ kept_from h
        (cond (eqb (number_of h e) 0) (Done (kept_of h.buf h.folds h.sizes e.from e.to e.points e.caret)) (Refused (number_of h e)))
        (cond (eqb (number_of h e) 0) (accepted h e).buf h.buf) (cond (eqb (number_of h e) 0) (accepted h e).folds h.folds)
        (cond (eqb (number_of h e) 0) (accepted h e).starts h.starts)
    same = λ i. kept_from h (k.answer i) (k.text i) (k.folds i) (k.starts i)

    go : (b : Bool) → kept_from h (cond b (Done (kept_of h.buf h.folds h.sizes e.from e.to e.points e.caret)) (Refused (number_of h e)))
        (cond b (accepted h e).buf h.buf) (cond b (accepted h e).folds h.folds) (cond b (accepted h e).starts h.starts)
        ≡ cond b (accepted h e) h
    go true = refl
    go false = refl

-- a fill makes the table that of its text
pub fill_true : (h : Host) (starts : List ℕ) {n : ℕ} {starts' : List ℕ} → FillsTo (text_of h) starts (Rows n) starts' →
    IsTrue (record { buf = h.buf; folds = h.folds; starts = starts'; sizes = h.sizes; content = n })
fill_true h starts {n} {starts'} f = go (eqb (fill_refusal (text_of h) starts) 0) f.answer f.table
  where
    go : (b : Bool) → Rows n ≡ cond b (Rows (content_rows (text_of h))) (Not (fill_refusal (text_of h) starts)) →
        starts' ≡ cond b (table_of (text_of h) starts) starts →
        IsTrue (record { buf = h.buf; folds = h.folds; starts = starts'; sizes = h.sizes; content = n })
    go true e s =
        record {
          table = ap (take (row_count (text_of h))) s ∙ take_at (row_starts (text_of h)) (drop (row_count (text_of h)) starts) (row_count (text_of h)) (rows_length
              (text_of h));
          count = cc;
        }
    go false e s = record { table = cc; count = cc }
