-- The parts of an input: command rows, the first row with only a full stop, and the text; and when it is refused. Document 01, "The session", and
-- document 02, #105. Definitions only; the laws are in `proofs/`. Assumes nothing.
use Rattle.std.specs.Prelude.{ℕ, ◌+◌, ◌≤◌, ◌≡◌, List, [], ◌∷◌, Bool, true, false, cond, not, ◌||◌, ltb, length, take, drop, Option, Some, None}
use Rattle.lists.specs.Lists.{is_same}
use Rattle.text.specs.Text.{rows}
use Rattle.lists.specs.Codes.{codes}
use Rattle.utf8.specs.Decoding.{Reading, text, bad, decoding}
use Rattle.utf8.specs.Walks.{points_of}

-- a row with only a full stop
abbrev pub is_stop : List ℕ → Bool
is_stop row = is_same row (codes ".")

-- the rows before the first of them
unfoldable pub command_rows : List (List ℕ) → List (List ℕ)
command_rows [] = []
command_rows (row ∷ rest) = cond (is_stop row) [] (row ∷ command_rows rest)

unfoldable pub has_stop : List (List ℕ) → Bool
has_stop [] = false
has_stop (row ∷ rest) = is_stop row || has_stop rest

-- where the text begins: past the first of them and its separator
unfoldable pub text_at : List (List ℕ) → ℕ
text_at [] = 0
text_at (row ∷ rest) = length row + 1 + cond (is_stop row) 0 (text_at rest)

-- the text: the code points of what stands from there on
abbrev pub text_of : List ℕ → List ℕ
text_of input = points_of (drop (text_at (rows input)) input)

-- bytes that are no UTF-8
unfoldable pub is_bad : Reading → Bool
is_bad (text t) = false
is_bad (bad place) = true

-- over 16,384 bytes, no UTF-8 anywhere in it, or no full-stop row
unfoldable pub is_refused : List ℕ → Bool
is_refused input = ltb 16384 (length input) || (is_bad (decoding input) || not (has_stop (rows input)))

unfoldable pub begin_of : List ℕ → Option ℕ
begin_of input = cond (is_refused input) None (Some (text_at (rows input)))

-- the same by the full-stop row alone
unfoldable pub stop_of : List ℕ → Option ℕ
stop_of input = cond (has_stop (rows input)) (Some (text_at (rows input))) None

-- the first n places of the room hold the code points of the text that begins at an index
pub record TextIn (input : List ℕ) (from n : ℕ) (room : List ℕ) : Type 0 where
  pub front : take n room ≡ points_of (drop from input)
  pub within : n ≤ length room
  pub counts : n ≡ length (take n room)
