-- Laws of counting verdicts. Assumes nothing.
use Rattle.lists.proofs.Kit.{◌≡◌, refl, Bool, true, false, ◌+◌, ◌≤◌, ℕ_discrete, arith, eq-eqb, ne_eqb}
use Rattle.replay_verdicts.specs.declared.Tally.{Tally}
use Rattle.replay_verdicts.specs.declared.Verdict.{Verdict}
use Rattle.replay_verdicts.specs.declared.Verdict.TheVariants.{Agrees, Differs, Malformed}
use Rattle.replay_verdicts.specs.Tallies.{faulted, counted}

-- one verdict more is one case more, and agrees at most
abbrev pub OneMore : Tally → Tally → Type 0
OneMore t u = (u.cases ≡ t.cases + 1) × (u.agree ≤ t.agree + 1)

faulted_cases : (t : Tally) (bad : Bool) → OneMore t (faulted t bad)
unfolding faulted
faulted_cases t bad = go (ℕ_discrete t.first 0)
  where
    go : Dec (t.first ≡ 0) → OneMore t (faulted t bad)
    go (yes e) = rw (eq-eqb t.first 0 e) (refl, omega arith)
    go (no n) = rw (ne_eqb t.first 0 n) (refl, omega arith)

pub counted_cases : (t : Tally) (v : Verdict) → OneMore t (counted t v)
unfolding counted
counted_cases t Agrees = (refl, omega arith)
counted_cases t Differs = faulted_cases t false
counted_cases t Malformed = faulted_cases t true
