-- The place that the % key goes to. From motions.rs, `match_bracket`.
-- Definitions only; the laws are in `proofs/Call.antt`. Assumes nothing.
use Rattle.std.specs.Prelude.{◌≡◌, List, ℕ, Option, Some, None}
use Rattle.text_check.specs.Accept.{text_refusal}
use Rattle.text.specs.Text.{row_at}
use Rattle.text.specs.Offsets.{IsLine}
use Rattle.text.specs.declared.Line.{Line}
use Rattle.bracket_kinds.specs.Find.{first_bracket}
use Rattle.bracket_walks.specs.declared.Partner.{Partner}
use Rattle.bracket_walks.specs.declared.Partner.TheVariants.{None as Partner-as-None}
use Rattle.brackets.specs.Matching.{matching_bracket_pos}

-- the partner of what stands in the row at an index, where there is one
unfoldable pub key_to : List ℕ → ℕ → Option ℕ → Partner
key_to t row (Some i) = matching_bracket_pos t row i
key_to t row None = Partner-as-None

-- where the % key goes to from a row and a column: none where it stays
abbrev pub key_from : List ℕ → ℕ → ℕ → Partner
key_from t row col = key_to t row (first_bracket (row_at t row) col)

-- what the key requires: a text that was accepted, and the row with its start
pub record ClearLine (t : List ℕ) (l : Line) : Type 0 where
  pub clear : text_refusal t ≡ 0
  pub line : IsLine t l
