-- `bracket_kinds::find::first_bracket` meets its contract. The invariant of its loop: the first bracket from the column on is the first from j on.
-- Assumes nothing.
use Rattle.lists.proofs.Kit.{◌≡◌, List, Bool, ℕ, length, get_or}
use Rattle.bracket_kinds.specs.Kinds.{key_bracket}
use Rattle.row_search.specs.Nearest.{first_in}
use Rattle.bracket_kinds.specs.Find.{first_bracket}
use Rattle.bracket_kinds.proofs.find.first_bracket.Given as goal

abbrev pub test : List ℕ → ℕ → Bool
test row i = key_bracket (get_or row i 0)

abbrev pub invariant-loop-j : goal.invariant-loop-j
invariant-loop-j l = first_bracket l.row l.col ≡ first_in (test l.row) l.j (length l.row)
