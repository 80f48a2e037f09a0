-- Paragraphs: runs of rows between empty ones, as `find_paragraph` of motions.rs walks them.
-- Definitions only; the laws are in `proofs/Walks.antt`. Assumes nothing.
use Rattle.std.specs.Prelude.{◌≡◌, ℕ, zero, suc, ◌≤◌, ◌<◌, List, Bool, false, cond, ◌&&◌, ◌||◌, not, eqb, length, Option, Some, None}
use Rattle.text.specs.Text.{row_count, row_len, last_row}
use Rattle.text.specs.Offsets.{IsLine, line_at}
use Rattle.text.specs.declared.Line.{Line}
use Rattle.row_walks.specs.Toward.{rows_left, onward}
use Rattle.row_walks.specs.declared.Round.{Round}
use Rattle.row_walks.specs.declared.Round.TheVariants.{Found, RanOff}

abbrev pub is_void : List ℕ → ℕ → Bool
is_void t row = eqb (row_len t row) 0

-- a round from `row`, with `rest` rows left in its direction, `skip` where it has passed a row that isn't empty: it ends on an empty row once it
-- has, and runs off where no row is left. `rest` is exact: one less with each row (`round_on`, `rest_less`)
unfoldable pub round_from : List ℕ → Bool → Bool → ℕ → ℕ → Round
round_from t fwd skip row zero = cond ((skip || not (is_void t row)) && is_void t row) (Found (line_at t row)) (RanOff (line_at t row))
round_from t fwd skip row (suc rest) =
    cond ((skip || not (is_void t row)) && is_void t row) (Found (line_at t row)) (round_from t fwd (skip || not (is_void t row)) (onward fwd row) rest)

abbrev pub round_of : List ℕ → Bool → ℕ → Round
round_of t fwd row = round_from t fwd false row (rows_left fwd (last_row t) row)

-- the last round may run off: it stops at the edge. One before it that does ends it all
abbrev pub at_last : Round → Option Line
at_last (Found l) = Some l
at_last (RanOff l) = Some l

abbrev pub go_on : (ℕ → Option Line) → Round → Option Line
go_on next (Found l) = next l.row
go_on next (RanOff l) = None

-- a round, and n more
unfoldable pub paragraphs : List ℕ → Bool → ℕ → ℕ → Option Line
paragraphs t fwd zero row = at_last (round_of t fwd row)
paragraphs t fwd (suc n) row = go_on (λ r. paragraphs t fwd n r) (round_of t fwd row)

-- where a round ends is a row of the text
abbrev pub EndsIn : List ℕ → Round → Type 0
EndsIn t (Found l) = IsLine t l
EndsIn t (RanOff l) = IsLine t l

-- and so is where all of them lead
abbrev pub LeadsIn : List ℕ → Option Line → Type 0
LeadsIn t (Some l) = IsLine t l
LeadsIn t None = 0 < row_count t

-- what a round from a row requires, `last` the last row with content, and what n of them do
pub record RoundReady (t : List ℕ) (last : ℕ) (from : Line) : Type 0 where
  pub line : IsLine t from
  pub is_last : last ≡ last_row t
  pub brief : length t ≤ 1048576

pub record ParagraphReady (t : List ℕ) (last : ℕ) (from : Line) (n : ℕ) : Type 0 where
  pub round : RoundReady t last from
  pub some : 0 < n

-- r is the round from a row, and what the paragraphs from it lead to
pub record RoundFrom (t : List ℕ) (fwd : Bool) (row : ℕ) (r : Round) : Type 0 where
  pub answer : r ≡ round_of t fwd row
  pub line : EndsIn t r

pub record ParagraphFrom (t : List ℕ) (fwd : Bool) (n row : ℕ) (r : Option Line) : Type 0 where
  pub answer : r ≡ paragraphs t fwd n row
  pub line : LeadsIn t r
