-- Carets as four numbers: row, column, whether there is a sticky column, and that. And as six, where a call takes the offset within a segment: whether one
-- is kept, and that. Cited by `call_texts::moves` and `call_texts::carets`. Assumes nothing.
use Rattle.std.specs.Prelude.{ℕ, List, [], ◌∷◌, cond, eqb, Option, Some, None}
use Rattle.motions.specs.declared.Caret.{Caret}
use Rattle.motions.specs.declared.Moved.{Moved}
use Rattle.motions.specs.declared.Moved.TheVariants.{To, Refused}
use Rattle.motions.specs.Carets.{caret_with, caret_at}
use Rattle.call_bytes.specs.Reply.{Reply, answer, refused}

-- none where the first is 0
abbrev pub sticky_of : ℕ → ℕ → Option ℕ
sticky_of held sticky = cond (eqb held 0) None (Some sticky)

abbrev pub caret_of : ℕ → ℕ → ℕ → ℕ → Caret
caret_of row col held sticky = caret_at row col (sticky_of held sticky)

-- and back: 0 and 0, or 1 and the column
abbrev pub held : Option ℕ → ℕ
held None = 0
held (Some x) = 1

abbrev pub column : Option ℕ → ℕ
column None = 0
column (Some x) = x

-- the number and values of a motion: the caret that moved, or a refusal's number
unfoldable pub moved : Moved → Reply
moved (To k) = answer (k.row ∷ k.col ∷ held k.sticky ∷ column k.sticky ∷ [])
moved (Refused f) = refused f

-- six numbers: none is kept where the fifth is 0
abbrev pub offset_of : ℕ → ℕ → Option ℕ
offset_of kept offset = cond (eqb kept 0) None (Some offset)

abbrev pub caret_six : ℕ → ℕ → ℕ → ℕ → ℕ → ℕ → Caret
caret_six row col held sticky kept offset = caret_with row col (sticky_of held sticky) (offset_of kept offset)

-- and back: 0 and 0, or 1 and the offset
abbrev pub keeps : Option ℕ → ℕ
keeps None = 0
keeps (Some x) = 1

abbrev pub within : Option ℕ → ℕ
within None = 0
within (Some x) = x

abbrev pub six : Caret → List ℕ
six k = k.row ∷ k.col ∷ held k.sticky ∷ column k.sticky ∷ keeps k.offset ∷ within k.offset ∷ []

unfoldable pub moved_six : Moved → Reply
moved_six (To k) = answer (six k)
moved_six (Refused f) = refused f
