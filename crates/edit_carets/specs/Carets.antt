-- A caret after an edit of its text. From document 02, #102. Definitions only; that `corrected_by` is `caret_after` is a law of `proofs/Follows.antt`.
-- Assumes nothing.
use Rattle.std.specs.Prelude.{ℕ, ◌≤◌, List, None}
use Rattle.text.specs.declared.Position.{Position}
use Rattle.motions.specs.declared.Caret.{Caret}
use Rattle.motions.specs.Carets.{here, caret_at}
use Rattle.edit_positions.specs.declared.Change.{Change}
use Rattle.edit_positions.specs.After.{position_after}
use Rattle.edit_positions.specs.Change
use Rattle.edit_positions.specs.Change.{moved_by}

-- a caret that keeps nothing but its position: every caret that an edit answers with
abbrev pub cleared_at : Position → Caret
cleared_at p = caret_at p.row p.col None

-- the caret once the stretch from p up to q of its text t has given way to c: it goes where its offset goes
abbrev pub caret_after : List ℕ → Position → Position → List ℕ → Caret → Caret
caret_after t p q c k = cleared_at (position_after t p q c (here k))

-- the same by rows and columns alone
abbrev pub corrected_by : Caret → Change → Caret
corrected_by k c = cleared_at (moved_by c (here k))

-- rows and columns stay numbers of a caret
pub record Fits (k : Caret) (c : Change) : Type 0 where
  pub sums : Change.Fits c (here k)
  pub row_fits : c.from.row ≤ 4294967295
  pub col_fits : c.from.col ≤ 4294967295
