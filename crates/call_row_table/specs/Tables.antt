-- A table of row starts filled, and edits that keep one, by numbers. From document 02, #106. Definitions only. Assumes nothing.
use Rattle.std.specs.Prelude.{ℕ, ◌*◌, ◌≤◌, ◌≡◌, List, [], ◌∷◌, cond, eqb, get_or, take}
use Rattle.text.specs.Text.{row_count, content_rows}
use Rattle.text.specs.declared.Counted.{Counted}
use Rattle.text.specs.declared.Counted.TheVariants.{Rows, Refused as Not}
use Rattle.text.specs.declared.Position.{Position}
use Rattle.call_bytes.specs.Reply.{Reply, answer, refused, told, Replied}
use Rattle.call_texts.specs.Rows.{told_rows}
use Rattle.call_edits.specs.Edits.{caret_in, sizes_in}
use Rattle.edit_places.specs.Replaced.{refilled}
use Rattle.row_table.specs.Table.{row_starts}
use Rattle.row_table.specs.Fill.{fill_refusal, table_of}
use Rattle.edits.specs.Edits.{new_text, new_folds, kept_by}
use Rattle.edit_rows.specs.declared.EditedRows.{EditedRows}
use Rattle.edit_rows.specs.declared.EditedRows.TheVariants.{Done, Refused}
use Rattle.edit_rows.specs.Rows.{refusal_with, kept_of, answered_by}

-- the fill's answer
abbrev pub fill_of : List ℕ → List ℕ → Counted
fill_of t starts = cond (eqb (fill_refusal t starts) 0) (Rows (content_rows t)) (Not (fill_refusal t starts))

-- the fill's number, and what the two lent slices hold then
pub record HostFills (t table out : List ℕ) (r : ℕ) (starts' out' : List ℕ) : Type 0 where
  pub out_left : Replied (told (told_rows (fill_of t table))) out r out'
  pub starts_left : starts' ≡ kept_by (fill_refusal t table) table (table_of t table)

-- what an edit writes into the caret and the sizes: code points, folds, rows with content
unfoldable pub caret_reply : EditedRows → Reply
caret_reply (Done k) = answer (k.left.caret.row ∷ k.left.caret.col ∷ 0 ∷ 0 ∷ 0 ∷ 0 ∷ [])
caret_reply (Refused f) = refused f

unfoldable pub sizes_reply : EditedRows → Reply
sizes_reply (Done k) = answer (k.left.sizes.len ∷ k.left.sizes.count ∷ k.content ∷ [])
sizes_reply (Refused f) = refused f

-- the sizes are numbers of 32 bits
unfoldable pub len_of : EditedRows → ℕ
len_of (Done k) = k.left.sizes.len
len_of (Refused f) = 0

unfoldable pub count_of : EditedRows → ℕ
count_of (Done k) = k.left.sizes.count
count_of (Refused f) = 0

pub record Fits (e : EditedRows) : Type 0 where
  pub len_fits : len_of e ≤ 4294967295
  pub count_fits : count_of e ≤ 4294967295

-- what of it is shown: r is the call's number, and what the caret and the sizes hold then
pub record Shown (e : EditedRows) (caret sizes : List ℕ) (r : ℕ) (caret' sizes' : List ℕ) : Type 0 where
  pub caret_left : Replied (caret_reply e) caret r caret'
  pub sizes_left : Replied (sizes_reply e) sizes r sizes'

-- the number that refuses, and the edit's answer, by what the host lends
abbrev pub number_of : List ℕ → List ℕ → List ℕ → Position → Position → List ℕ → List ℕ → List ℕ → ℕ
number_of buf folds table p q c caret sizes = refusal_with buf folds table (sizes_in sizes) (get_or sizes 2 0) p q c (caret_in caret)

abbrev pub edit_of : List ℕ → List ℕ → List ℕ → Position → Position → List ℕ → List ℕ → List ℕ → EditedRows
edit_of buf folds table p q c caret sizes =
    answered_by (number_of buf folds table p q c caret sizes) (kept_of buf folds (sizes_in sizes) p q c (caret_in caret))

-- the call's number, and what all five lent slices hold then
pub record HostKeeps (buf fold table : List ℕ) (p q : Position) (c caret sizes : List ℕ) (r : ℕ) (buf' fold' starts' caret' sizes' : List ℕ) : Type 0 where
  pub caret_left : Replied (caret_reply (edit_of buf fold table p q c caret sizes)) caret r caret'
  pub sizes_left : Replied (sizes_reply (edit_of buf fold table p q c caret sizes)) sizes r sizes'
  pub text_left : buf' ≡ kept_by (number_of buf fold table p q c caret sizes) buf (refilled buf (sizes_in sizes).len (new_text buf (sizes_in sizes) p q c))
  pub folds_left : fold' ≡
      kept_by (number_of buf fold table p q c caret sizes) fold (refilled fold (3 * (sizes_in sizes).count) (new_folds fold (sizes_in sizes) p q c))
  pub starts_left : starts' ≡
      kept_by (number_of buf fold table p q c caret sizes) table
      (refilled table (row_count (take (sizes_in sizes).len buf)) (row_starts (new_text buf (sizes_in sizes) p q c)))
