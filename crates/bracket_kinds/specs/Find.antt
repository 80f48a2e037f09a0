-- The bracket that the % key starts from. From motions.rs, `match_bracket`. Definitions only. Assumes nothing.
use Rattle.std.specs.Prelude.{List, ℕ, length, get_or, Option}
use Rattle.row_search.specs.Nearest.{first_in}
use Rattle.bracket_kinds.specs.Kinds.{key_bracket}

-- the first bracket at or after the column that the % key starts on
abbrev pub first_bracket : List ℕ → ℕ → Option ℕ
first_bracket row col = first_in (λ i. key_bracket (get_or row i 0)) col (length row)
