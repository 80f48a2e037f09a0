-- What a retired sign is: the leading `+` of a number, in a part that the first reader keeps as a number or a range. Document 02, #112.
-- Definitions only; the laws are in `proofs/`. Assumes nothing.
use Rattle.std.specs.Prelude.{ℕ, ◌+◌, List, [], ◌∷◌, ◌++◌, Bool, true, false, cond, eqb, length, take, drop, replicate, Option, Some, None}
use Rattle.chars.specs.White.{is_white}
use Rattle.lists.specs.Lists.{up_to}
use Rattle.list_parts.specs.Numbers.{number_of}
use Rattle.list_parts.specs.Parts.{parts, trim_start, trim}
use Rattle.list_tokens.specs.Grammar.{is_token, range_of}

-- A mark for each code point: true for a retired sign.

-- none of them is one
abbrev pub none : List ℕ → List Bool
none p = replicate (length p) false

-- of a number: its leading `+`
abbrev pub leading : List ℕ → List Bool
leading [] = []
leading (x ∷ p) = eqb x 43 ∷ none p

abbrev pub is_value : Option ℕ → Bool
is_value (Some n) = true
is_value None = false

-- of a trimmed part: both numbers of a range, split at the first `-`, or a number; any other part, kept or dropped, has none
abbrev pub kept_signs : List ℕ → List Bool
kept_signs p =
    let d = up_to 45 p in
    cond (is_token (range_of p)) (leading (take d p) ++ (false ∷ leading (drop (d + 1) p))) (cond (is_value (number_of p)) (leading p) (none p))

-- the white space before a part, and that behind it
unfoldable pub before : List ℕ → List ℕ
before [] = []
before (x ∷ p) = cond (is_white x) (x ∷ before p) []

abbrev pub behind : List ℕ → List ℕ
behind p = drop (length (trim p)) (trim_start p)

abbrev pub part_signs : List ℕ → List Bool
part_signs p = none (before p) ++ (kept_signs (trim p) ++ none (behind p))

-- of parts: each with the comma or the list's end after it, which is no sign
unfoldable pub signs_in : List (List ℕ) → List Bool
signs_in [] = []
signs_in (p ∷ ps) = part_signs p ++ (false ∷ signs_in ps)

-- of a list, and a last one for its end
abbrev pub signs : List ℕ → List Bool
signs list = signs_in (parts list)
