-- The verdicts of a list of cases, counted. What the contracts of `replay::tallies` cite. Assumes nothing.
use Rattle.std.specs.Prelude.{ℕ, ◌≡◌, List, [], ◌∷◌, length}
use Rattle.replay_verdicts.specs.declared.Tally.{Tally}
use Rattle.replay_verdicts.specs.declared.Verdict.{Verdict}
use Rattle.replay_verdicts.specs.declared.Verdict.TheVariants.{Malformed}
use Rattle.replay_rows.specs.Rows.{Read, these, malformed, read_row, lines}
use Rattle.replay_verdicts.specs.Tallies.{counted, none}
use Rattle.replay.specs.Cases.{verdict_of}

-- the verdict of what a row holds
unfoldable pub judged : Read → Verdict
judged (these ns) = verdict_of ns
judged malformed = Malformed

-- how many numbers a row may have
abbrev pub most : ℕ
most = 1048832

-- rows counted on
unfoldable pub tallied : Tally → List (List ℕ) → Tally
tallied t [] = t
tallied t (row ∷ rest) = tallied (counted t (judged (read_row most row))) rest

-- the verdicts of all rows
abbrev pub tally_of : List ℕ → Tally
tally_of bytes = tallied none (lines bytes)

-- what the verdict of a row answers, and that the room is kept
pub record Judged (row room : List ℕ) (r : Verdict) (room' : List ℕ) : Type 0 where
  pub verdict : r ≡ judged (read_row (length room) row)
  pub kept : length room' ≡ length room
