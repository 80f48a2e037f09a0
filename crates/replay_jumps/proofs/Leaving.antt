-- A call that leaves places beside its reply, compared by its number, by its places and by those. Assumes nothing.
use Rattle.lists.proofs.Kit.{◌≡◌, refl, ◌∙◌, List, ◌∷◌, ◌++◌, ℕ, replicate}
use Rattle.call_bytes.specs.Reply.{Reply, Replied, number, left}
use Rattle.replay_verdicts.specs.declared.Verdict.{Verdict}
use Rattle.replay_verdicts.specs.Answers.{compared, filler}

pub jumped_compared :
    {m : Reply} {r : ℕ} {out answers answers' : List ℕ} (stored : List ℕ) {v : Verdict} → Replied m (replicate 6 filler) r out → answers ≡ answers' →
    v ≡ compared (r ∷ (out ++ answers)) stored → v ≡ compared (number m ∷ (left m (replicate 6 filler) ++ answers')) stored
jumped_compared stored p q e = e ∙ rw (p.numbered, p.out_left, q) refl
