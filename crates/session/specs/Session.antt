-- What a session prints. Document 01, "The session".
-- Definitions only; the laws are in `proofs/Lengths.antt` and `proofs/Printing.antt`. Assumes nothing.
use Rattle.std.specs.Prelude.{ℕ, List, [], ◌∷◌, ◌++◌, cond, eqb, Option, Some, None}
use Rattle.text.specs.Text.{rows}
use Rattle.lists.specs.Codes.{codes}
use Rattle.print.specs.Print.{decimal}
use Rattle.session_row.specs.Commands.{key_part, count_in}
use Rattle.motions.specs.declared.Caret.{Caret}
use Rattle.motions.specs.declared.Moved.{Moved}
use Rattle.motions.specs.declared.Moved.TheVariants.{To, Refused}
use Rattle.motions.specs.Carets.{caret_after, caret_at}
use Rattle.session_input.specs.Parts.{command_rows, text_of, is_refused}
use Rattle.session_presses.specs.Pressed.{pressed}

-- a key with its count, or a malformed row: 0, which no call refuses with
unfoldable pub counted : List ℕ → Option ℕ → List ℕ → Caret → Moved
counted name (Some n) t k = pressed name t n k
counted name None t k = Refused 0

-- what a command row does
abbrev pub turned : List ℕ → Caret → List ℕ → Moved
turned t k row = counted (key_part row) (count_in row) t k

-- what stands in the key's place
unfoldable pub shown_of : List ℕ → Moved → List ℕ
shown_of name (To k) = name
shown_of name (Refused f) = cond (eqb f 0) (codes "?") (codes "!" ++ decimal f)

unfoldable pub line_of : List ℕ → Caret → List ℕ
line_of what k = what ++ codes " " ++ decimal k.row ++ codes " " ++ decimal k.col ++ codes "\n"

-- the lines of command rows, one after another from a caret on. A refused row leaves the caret as it was
unfoldable pub lines_of : List ℕ → Caret → List (List ℕ) → List ℕ
lines_of t k [] = []
lines_of t k (row ∷ rest) =
    let m = turned t k row in
    line_of (shown_of (key_part row) m) (caret_after k m) ++ lines_of t (caret_after k m) rest

abbrev pub start : Caret
start = caret_at 0 0 None

-- what the commands of an input print with a text, from row 0 and column 0 on
abbrev pub output_of : List ℕ → List ℕ → List ℕ
output_of t input = lines_of t start (command_rows (rows input))

unfoldable pub session_of : List ℕ → List ℕ
session_of input = cond (is_refused input) (codes "refused\n") (output_of (text_of input) input)
