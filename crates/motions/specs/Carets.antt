-- Carets: when a call with a text and a caret is refused, and what a motion answers.
-- From document 01, "Text, rows, carets" and "Refusal numbers". Definitions only; the laws are in `proofs/Checks.antt`. Assumes nothing.
use Rattle.std.specs.Prelude.{ℕ, List, cond, eqb, Option, None}
use Rattle.text.specs.Text.{position}
use Rattle.text.specs.declared.Position.{Position}
use Rattle.positions.specs.declared.Entry.{Entry}
use Rattle.positions.specs.Positions
use Rattle.positions.specs.Positions.{position_refusal, refusal_at}
use Rattle.motions.specs.declared.Caret.{Caret}
use Rattle.motions.specs.declared.Moved.{Moved}
use Rattle.motions.specs.declared.Moved.TheVariants.{To, Refused}

-- where a caret stands
abbrev pub here : Caret → Position
here k = position k.row k.col

-- a caret in the text, as a statement
abbrev pub Inside : List ℕ → Caret → Type 0
Inside t k = Positions.Inside t (here k)

abbrev pub caret_refusal : List ℕ → Caret → ℕ
caret_refusal t k = position_refusal t (here k)

abbrev pub refusal_of : List ℕ → Caret → ℕ
refusal_of t k = refusal_at t (here k)

-- what the checks of a call find out: its refusal, and where the caret's row starts
abbrev pub entry_of : List ℕ → Caret → Entry
entry_of t k = Positions.entry_of t (here k)

-- what a motion answers: the caret that it leads to, or the number that the call is refused with
unfoldable pub moving : ℕ → Caret → Moved
moving f k = cond (eqb f 0) (To k) (Refused f)

-- the caret that one goes on from after an answer: where the motion has led to, or the old one of a refused call
abbrev pub caret_after : Caret → Moved → Caret
caret_after old (To k) = k
caret_after old (Refused f) = old

-- a caret by its parts
abbrev pub caret_with : ℕ → ℕ → Option ℕ → Option ℕ → Caret
caret_with r c s o = record { row = r; col = c; sticky = s; offset = o }

-- one that keeps no offset: every caret that a motion answers with, but for the screen moves that remember
abbrev pub caret_at : ℕ → ℕ → Option ℕ → Caret
caret_at r c s = caret_with r c s None

-- a caret at another row and column: the sticky column is kept
abbrev pub placed : Caret → ℕ → ℕ → Caret
placed k r c = caret_at r c k.sticky

-- a caret where it was
abbrev pub cleared : Caret → Caret
cleared k = placed k k.row k.col

abbrev pub put : Caret → Position → Caret
put k p = placed k p.row p.col

-- the answer of a motion, by the position that it leads to
abbrev pub leads : List ℕ → Caret → Position → Moved
leads t k p = moving (refusal_of t k) (put k p)
