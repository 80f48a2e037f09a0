-- What the contracts of `src/marks.rt` cite: the marks of a list by their places, as the code sets them. That they are those of `signs` is
-- `part_signs_lem` in `proofs/PartMarks.antt` and, part by part, `marking_step` in `proofs/Marking.antt`. Definitions only. Assumes nothing.
use Rattle.std.specs.Prelude.{ℕ, ◌+◌, List, Bool, true, cond, ◌&&◌, ◌||◌, eqb, get_or, set}
use Rattle.lists.specs.Lists.{up_to}
use Rattle.list_parts.specs.Numbers.{number_of}
use Rattle.list_parts.specs.Parts.{trim}
use Rattle.list_tokens.specs.Grammar.{is_token, range_of}
use Rattle.list_signs.specs.Signs.{is_value}

-- a trimmed part that is a number or a range begins with `+`
abbrev pub leads : List ℕ → Bool
leads p = eqb (get_or p 0 0) 43 && (is_token (range_of p) || is_value (number_of p))

-- it is a range, and the second number begins with `+`
abbrev pub seconds : List ℕ → Bool
seconds p = eqb (get_or p (up_to 45 p + 1) 0) 43 && is_token (range_of p)

abbrev pub marked : Bool → ℕ → List Bool → List Bool
marked on at ms = cond on (set ms at true) ms

-- the marks with those of a part that begins at an index: of its first `+`, and of what follows its first `-`
abbrev pub part_marked : List ℕ → ℕ → List Bool → List Bool
part_marked p i ms = marked (seconds (trim p)) (i + up_to 45 p + 1) (marked (leads (trim p)) (i + up_to 43 p) ms)
