-- Find on a row. From motions.rs, `find_char_on_line`. Definitions only; the laws are in `proofs/Finds.antt`. Assumes nothing.
use Rattle.std.specs.Prelude.{Bool, cond, ◌&&◌, List, ℕ, ◌+◌, ◌-◌, eqb, ltb, length, get_or, Option, Some, None}
use Rattle.row_search.specs.Nearest.{first_in, last_below}

-- x stands in the row at i
abbrev pub is : List ℕ → ℕ → ℕ → Bool
is row x i = eqb (get_or row i 0) x

-- where a search to the right of the column starts: at the next one, or the one after where an adjacent match of a till is skipped;
-- and to the left of it, likewise
abbrev pub start_ahead : List ℕ → ℕ → ℕ → Bool → ℕ
start_ahead row col x again = cond (again && (ltb (col + 1) (length row) && is row x (col + 1))) (col + 2) (col + 1)

abbrev pub start_back : List ℕ → ℕ → ℕ → Bool → ℕ
start_back row col x again = cond (again && (ltb 0 col && is row x (col - 1))) (col - 1) col

-- the match next to the column, to the right or to the left
abbrev pub nearest_on : List ℕ → ℕ → ℕ → Bool → Bool → Option ℕ
nearest_on row col x forward again =
    cond forward (first_in (is row x) (start_ahead row col x again) (length row)) (last_below (is row x) (start_back row col x again))

-- where a find stops: at the match, or one place short of it
abbrev pub stops : Bool → Bool → ℕ → ℕ
stops forward till i = cond till (cond forward (i - 1) (i + 1)) i

-- the index of a match, moved as `till` asks
unfoldable pub landing : (ℕ → ℕ) → Option ℕ → Option ℕ
landing f (Some i) = Some (f i)
landing f None = None

-- the column that a find lands on, or nothing where the row has no such match
abbrev pub find_on_row : List ℕ → ℕ → ℕ → Bool → Bool → Bool → Option ℕ
find_on_row row col x forward till skip = landing (stops forward till) (nearest_on row col x forward (skip && till))
