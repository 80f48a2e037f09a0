-- A run of edits on a lent text with its folds and its table, refused ones among them. From document 02, #106.
-- Definitions only; that the table is the text's after any run is `run_true` of `proofs/Runs.antt`. Assumes nothing.
use Rattle.std.specs.Prelude.{ℕ, ◌*◌, ◌≡◌, List, [], ◌∷◌, cond, eqb, take}
use Rattle.text.specs.Text.{row_count, content_rows}
use Rattle.text.specs.declared.Position.{Position}
use Rattle.motions.specs.declared.Caret.{Caret}
use Rattle.edit_places.specs.Replaced.{refilled}
use Rattle.row_table.specs.Table.{row_starts}
use Rattle.edit_checks.specs.declared.Sizes.{Sizes}
use Rattle.edits.specs.Edits.{new_text, new_folds, left_of}
use Rattle.edit_rows.specs.declared.EditedRows.{EditedRows}
use Rattle.edit_rows.specs.declared.EditedRows.TheVariants.{Done, Refused}
use Rattle.edit_rows.specs.Rows.{refusal_with}

-- what a host keeps from edit to edit
pub record Host : Type 0 where
  pub buf : List ℕ
  pub folds : List ℕ
  pub starts : List ℕ
  pub sizes : Sizes
  pub content : ℕ

-- an edit: the stretch from `from` up to `to` gives way to `points`, with a caret in the text
pub record Edit : Type 0 where
  pub from : Position
  pub to : Position
  pub points : List ℕ
  pub caret : Caret

abbrev pub text_of : Host → List ℕ
text_of h = take h.sizes.len h.buf

-- the table and the number of rows with content are those that a count of the text gives
pub record IsTrue (h : Host) : Type 0 where
  pub table : take (row_count (text_of h)) h.starts ≡ row_starts (text_of h)
  pub count : h.content ≡ content_rows (text_of h)

abbrev pub accepted : Host → Edit → Host
accepted h e =
    let new = new_text h.buf h.sizes e.from e.to e.points in
    record {
      buf = refilled h.buf h.sizes.len new;
      folds = refilled h.folds (3 * h.sizes.count) (new_folds h.folds h.sizes e.from e.to e.points);
      starts = refilled h.starts (row_count (text_of h)) (row_starts new);
      sizes = (left_of h.buf h.folds h.sizes e.from e.to e.points e.caret).sizes;
      content = content_rows new;
    }

abbrev pub number_of : Host → Edit → ℕ
number_of h e = refusal_with h.buf h.folds h.starts h.sizes h.content e.from e.to e.points e.caret

-- what the host keeps after the edit: all as it was where it is refused
unfoldable pub edited : Host → Edit → Host
edited h e = cond (eqb (number_of h e) 0) (accepted h e) h

unfoldable pub run : List Edit → Host → Host
run [] h = h
run (e ∷ es) h = run es (edited h e)

-- what a host keeps that takes the answer of a call for its next one
unfoldable pub kept_from : Host → EditedRows → List ℕ → List ℕ → List ℕ → Host
kept_from h (Done k) buf folds starts = record { buf = buf; folds = folds; starts = starts; sizes = k.left.sizes; content = k.content }
kept_from h (Refused f) buf folds starts = record { buf = buf; folds = folds; starts = starts; sizes = h.sizes; content = h.content }
