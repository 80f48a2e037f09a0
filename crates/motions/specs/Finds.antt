-- `%` and the finds within a row, as motions.rs has them under "Find / match".
-- Definitions only. Assumes nothing.
use Rattle.std.specs.Prelude.{ℕ, List, Bool, cond, eqb, Option, Some, None}
use Rattle.text.specs.Text.{row_at}
use Rattle.bracket_walks.specs.declared.Partner.{Partner}
use Rattle.bracket_walks.specs.declared.Partner.TheVariants.{There, None as Partner-as-None, Refused as Partner-as-Refused}
use Rattle.row_search.specs.Find.{find_on_row}
use Rattle.brackets.specs.Find.{key_from}
use Rattle.positions.specs.Positions.{refusal_with}
use Rattle.motions.specs.declared.Caret.{Caret}
use Rattle.motions.specs.declared.Sought.{Sought}
use Rattle.motions.specs.declared.Sought.TheVariants.{Found as Sought-as-Found, Missing, Refused}
use Rattle.motions.specs.Carets.{here, refusal_of, placed, cleared}

-- the caret at the partner, or where it was
unfoldable pub partner_to : Caret → Partner → Sought
partner_to k (There p) = Sought-as-Found (placed k p.row p.col)
partner_to k Partner-as-None = Missing (cleared k)
partner_to k (Partner-as-Refused f) = Refused f

-- the answer of a search, or the number that the call is refused with
unfoldable pub seeking : ℕ → Sought → Sought
seeking f m = cond (eqb f 0) m (Refused f)

-- `%`: the partner of the first round, square or curly bracket at or after the caret in its row
abbrev pub match_bracket : List ℕ → Caret → Sought
match_bracket t k = seeking (refusal_of t k) (partner_to k (key_from t k.row k.col))

-- the caret at a column that was found in its row, or where it was
unfoldable pub lands_on : Caret → Option ℕ → Sought
lands_on k (Some i) = Sought-as-Found (placed k k.row i)
lands_on k None = Missing (cleared k)

-- `f`, `F`, `t`, `T`; a character sought that is no scalar value is 2, after 1 and before all else
abbrev pub find_char_on_line : List ℕ → ℕ → Bool → Bool → Bool → Caret → Sought
find_char_on_line t x forward till skip k =
    seeking (refusal_with t (here k) x) (lands_on k (find_on_row (row_at t k.row) k.col x forward till skip))
