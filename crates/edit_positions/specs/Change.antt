-- Where a position goes, by rows and columns alone: what the code computes. That it is where the position's offset goes (`position_after` of
-- `After.antt`) is a law of `proofs/Going.antt`. Definitions only. Assumes nothing.
use Rattle.std.specs.Prelude.{ℕ, ◌+◌, ◌-◌, ◌≤◌, List, Bool, cond, eqb, ltb, length}
use Rattle.text.specs.Text.{position}
use Rattle.text.specs.declared.Position.{Position}
use Rattle.bracket_walks.specs.Matching.{pos_of}
use Rattle.edit_positions.specs.declared.Change.{Change}

-- p stands before q
unfoldable pub is_before : Position → Position → Bool
is_before p q = cond (eqb p.row q.row) (ltb p.col q.col) (ltb p.row q.row)

-- the position e of a text that begins at p
unfoldable pub beyond : Position → Position → Position
beyond p e = position (p.row + e.row) (cond (eqb e.row 0) (p.col + e.col) e.col)

-- where c ends that is put at p
abbrev pub end_of : Position → List ℕ → Position
end_of p c = beyond p (pos_of c (length c))

-- from the end of the stretch on: a position in the row of that end, and one in a later row
unfoldable pub behind : Change → Position → Position
behind c x =
    cond (eqb x.row c.to.row) (position c.end.row (c.end.col + (x.col - c.to.col)))
    (position (c.end.row + (x.row - c.to.row)) x.col)

unfoldable pub moved_by : Change → Position → Position
moved_by c x = cond (is_before x c.from) x (cond (is_before x c.to) c.from (behind c x))

-- rows and columns of a text that is accepted
pub record Near (p : Position) : Type 0 where
  pub row_near : p.row ≤ 1048576
  pub col_near : p.col ≤ 1048576

-- the sums fit
pub record Fits (c : Change) (x : Position) : Type 0 where
  pub row_fits : c.end.row + x.row ≤ 4294967295
  pub col_fits : c.end.col + x.col ≤ 4294967295
