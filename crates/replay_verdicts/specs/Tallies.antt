-- Verdicts counted. What the contracts of `replay_verdicts::tallies` cite. Definitions only; the laws are in `proofs/Counting.antt`. Assumes nothing.
use Rattle.std.specs.Prelude.{◌+◌, ◌<◌, ◌≤◌, Bool, true, false, cond, eqb}
use Rattle.replay_verdicts.specs.declared.Tally.{Tally}
use Rattle.replay_verdicts.specs.declared.Verdict.{Verdict}
use Rattle.replay_verdicts.specs.declared.Verdict.TheVariants.{Agrees, Differs, Malformed}

-- one case more that agrees
abbrev pub agreed : Tally → Tally
agreed t = record { cases = t.cases + 1; agree = t.agree + 1; first = t.first; malformed = t.malformed }

-- one case more that doesn't: the first such is kept
unfoldable pub faulted : Tally → Bool → Tally
faulted t bad =
    cond (eqb t.first 0)
    (record { cases = t.cases + 1; agree = t.agree; first = t.cases + 1; malformed = bad })
    (record { cases = t.cases + 1; agree = t.agree; first = t.first; malformed = t.malformed })

-- one case more
unfoldable pub counted : Tally → Verdict → Tally
counted t Agrees = agreed t
counted t Differs = faulted t false
counted t Malformed = faulted t true

-- no case yet
abbrev pub none : Tally
none = record { cases = 0; agree = 0; first = 0; malformed = false }

-- a tally that one more can be counted onto
pub record Countable (t : Tally) : Type 0 where
  pub below : t.cases < 18446744073709551615
  pub ordered : t.agree ≤ t.cases
