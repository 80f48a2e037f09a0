-- Edits by numbers: the caret and the sizes that a host lends, read and written. From document 02, #102. Definitions only. Assumes nothing.
use Rattle.std.specs.Prelude.{ℕ, ◌*◌, ◌≤◌, ◌≡◌, List, [], ◌∷◌, get_or}
use Rattle.text.specs.Text.{position}
use Rattle.text.specs.declared.Position.{Position}
use Rattle.motions.specs.declared.Caret.{Caret}
use Rattle.call_bytes.specs.Reply.{Reply, answer, refused, Replied}
use Rattle.call_texts.specs.Carets.{caret_six}
use Rattle.edit_places.specs.Replaced.{refilled}
use Rattle.edit_checks.specs.declared.Sizes.{Sizes}
use Rattle.edits.specs.declared.Edited.{Edited}
use Rattle.edits.specs.declared.Edited.TheVariants.{Done, Refused}
use Rattle.edits.specs.Edits.{new_text, new_folds, left_of, edited_by, kept_by, refusal_of}

-- row, column, held, sticky; the last two of the six are not read
abbrev pub caret_in : List ℕ → Caret
caret_in v = caret_six (get_or v 0 0) (get_or v 1 0) (get_or v 2 0) (get_or v 3 0) (get_or v 4 0) (get_or v 5 0)

abbrev pub sizes_of : ℕ → ℕ → Sizes
sizes_of len count = record { len = len; count = count }

abbrev pub sizes_in : List ℕ → Sizes
sizes_in v = sizes_of (get_or v 0 0) (get_or v 1 0)

abbrev pub position_at : ℕ → ℕ → Position
position_at row col = position row col

-- what is written into them: a caret that an edit has corrected keeps nothing but its position
unfoldable pub caret_reply : Edited → Reply
caret_reply (Done l) = answer (l.caret.row ∷ l.caret.col ∷ 0 ∷ 0 ∷ 0 ∷ 0 ∷ [])
caret_reply (Refused f) = refused f

unfoldable pub sizes_reply : Edited → Reply
sizes_reply (Done l) = answer (l.sizes.len ∷ l.sizes.count ∷ [])
sizes_reply (Refused f) = refused f

-- the sizes are numbers of 32 bits
unfoldable pub len_of : Edited → ℕ
len_of (Done l) = l.sizes.len
len_of (Refused f) = 0

unfoldable pub count_of : Edited → ℕ
count_of (Done l) = l.sizes.count
count_of (Refused f) = 0

pub record Fits (e : Edited) : Type 0 where
  pub len_fits : len_of e ≤ 4294967295
  pub count_fits : count_of e ≤ 4294967295

-- what of it is shown: r is the call's number, and what the caret and the sizes hold then
pub record Shown (e : Edited) (caret sizes : List ℕ) (r : ℕ) (caret' sizes' : List ℕ) : Type 0 where
  pub caret_left : Replied (caret_reply e) caret r caret'
  pub sizes_left : Replied (sizes_reply e) sizes r sizes'

-- the edit's answer, by what the host lends
abbrev pub edit_of : List ℕ → List ℕ → Position → Position → List ℕ → List ℕ → List ℕ → Edited
edit_of buf folds p q c caret sizes =
    edited_by (refusal_of buf folds (sizes_in sizes) p q c (caret_in caret)) (left_of buf folds (sizes_in sizes) p q c (caret_in caret))

-- the call's number, and what all four lent slices hold then
pub record HostEdits (buf fold : List ℕ) (p q : Position) (c caret sizes : List ℕ) (r : ℕ) (buf' fold' caret' sizes' : List ℕ) : Type 0 where
  pub caret_left : Replied (caret_reply (edit_of buf fold p q c caret sizes)) caret r caret'
  pub sizes_left : Replied (sizes_reply (edit_of buf fold p q c caret sizes)) sizes r sizes'
  pub text_left : buf' ≡ kept_by (refusal_of buf fold (sizes_in sizes) p q c (caret_in caret)) buf (refilled buf (sizes_in sizes).len
      (new_text buf (sizes_in sizes) p q c))
  pub folds_left : fold' ≡
      kept_by (refusal_of buf fold (sizes_in sizes) p q c (caret_in caret)) fold (refilled fold (3 * (sizes_in sizes).count) (new_folds fold (sizes_in sizes) p q c))
