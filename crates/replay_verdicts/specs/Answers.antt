-- What a call answers and leaves, as the list has it, and when that is the stored answer. What the contracts of `replay_verdicts::answers` cite.
-- Definitions only; the laws are in `proofs/Comparing.antt`. Assumes nothing.
use Rattle.std.specs.Prelude.{ℕ, List, ◌∷◌, cond, replicate}
use Rattle.lists.specs.Lists.{is_same}
use Rattle.call_bytes.specs.Reply.{Reply, number, left}
use Rattle.replay_verdicts.specs.declared.Verdict.{Verdict}
use Rattle.replay_verdicts.specs.declared.Verdict.TheVariants.{Agrees, Differs}

-- an answer against the stored one
unfoldable pub compared : List ℕ → List ℕ → Verdict
compared answer stored = cond (is_same answer stored) Agrees Differs

-- what lent places hold before a call
abbrev pub filler : ℕ
filler = 2779096485

-- the number that a call answers, and what it leaves in n places
unfoldable pub shown : ℕ → Reply → List ℕ
shown n m = number m ∷ left m (replicate n filler)
