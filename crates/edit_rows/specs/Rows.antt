-- What an edit that keeps a table of row starts answers and leaves: what the edit without one does, and the table of the new text.
-- From document 02, #106. Definitions only; the laws are in `proofs/`. Assumes nothing.
use Rattle.std.specs.Prelude.{ℕ, ◌*◌, max, ◌≡◌, List, cond, eqb, take}
use Rattle.text.specs.Text.{row_count, content_rows}
use Rattle.text.specs.declared.Position.{Position}
use Rattle.motions.specs.declared.Caret.{Caret}
use Rattle.edit_places.specs.Replaced.{refilled}
use Rattle.row_table.specs.Table.{row_starts, table_refusal}
use Rattle.edit_checks.specs.declared.Sizes.{Sizes}
use Rattle.edits.specs.Edits.{new_text, new_folds, left_of, kept_by, refusal_of}
use Rattle.edit_rows.specs.declared.Kept.{Kept}
use Rattle.edit_rows.specs.declared.EditedRows.{EditedRows}
use Rattle.edit_rows.specs.declared.EditedRows.TheVariants.{Done, Refused}

-- 15, 16: the table has a place for each row before the edit and for each after it, and is the text's before it
abbrev pub rows_refusal : List ℕ → List ℕ → List ℕ → ℕ → ℕ
rows_refusal t new starts content = table_refusal (max (row_count t) (row_count new)) t starts content

-- the edit's own refusal, and then the table's
unfoldable pub refusal_with : List ℕ → List ℕ → List ℕ → Sizes → ℕ → Position → Position → List ℕ → Caret → ℕ
refusal_with buf folds starts s content p q c k =
    let f = refusal_of buf folds s p q c k in
    cond (eqb f 0) (rows_refusal (take s.len buf) (new_text buf s p q c) starts content) f

-- what an accepted edit leaves: as without a table, and how many rows of the new text have content
abbrev pub kept_of : List ℕ → List ℕ → Sizes → Position → Position → List ℕ → Caret → Kept
kept_of buf folds s p q c k = record { left = left_of buf folds s p q c k; content = content_rows (new_text buf s p q c) }

unfoldable pub answered_by : ℕ → Kept → EditedRows
answered_by f kept = cond (eqb f 0) (Done kept) (Refused f)

-- the answer r, and what the three slices hold then, place by place: on a refusal what they held before
pub record KeepsTo (buf fold table : List ℕ) (s : Sizes) (content : ℕ) (p q : Position) (c : List ℕ) (k : Caret) (r : EditedRows)
    (buf' folds' starts' : List ℕ) : Type 0 where
  pub answer : r ≡ answered_by (refusal_with buf fold table s content p q c k) (kept_of buf fold s p q c k)
  pub text : buf' ≡ kept_by (refusal_with buf fold table s content p q c k) buf (refilled buf s.len (new_text buf s p q c))
  pub folds : folds' ≡ kept_by (refusal_with buf fold table s content p q c k) fold (refilled fold (3 * s.count) (new_folds fold s p q c))
  pub starts : starts' ≡ kept_by (refusal_with buf fold table s content p q c k) table
      (refilled table (row_count (take s.len buf)) (row_starts (new_text buf s p q c)))
