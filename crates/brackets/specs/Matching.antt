-- The answer of `matching_bracket_pos`. From the request, demand 3.
-- Definitions only; the laws are in `proofs/Call.antt`, and those of pairing in the crate `bracket_laws`. Assumes nothing.
use Rattle.std.specs.Prelude.{cond, ◌&&◌, List, ℕ, ◌+◌, ◌<◌, eqb, ltb}
use Rattle.text_check.specs.Accept.{text_refusal}
use Rattle.text.specs.Text.{row_count, row_len}
use Rattle.text.specs.Offsets.{row_start}
use Rattle.bracket_walks.specs.declared.Partner.{Partner}
use Rattle.bracket_walks.specs.declared.Partner.TheVariants.{None, Refused}
use Rattle.bracket_walks.specs.Matching.{partner_of, placed}

-- the position holds a code point of the text
pub record Inside (t : List ℕ) (row col : ℕ) : Type 0 where
  pub in_row : row < row_count t
  pub in_col : col < row_len t row

-- the answer of the call: 1 to 3 where the text is refused, and none outside the text
unfoldable pub matching_bracket_pos : List ℕ → ℕ → ℕ → Partner
matching_bracket_pos t row col =
    cond (eqb (text_refusal t) 0)
    (cond (ltb row (row_count t) && ltb col (row_len t row)) (placed t (partner_of t (row_start t row + col))) None)
    (Refused (text_refusal t))
