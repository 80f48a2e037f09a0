-- Laws of what the entry of a list replies: it fills its one place, and is compared by its number, its place and that. Assumes nothing.
use Rattle.lists.proofs.Kit.{◌≡◌, refl, ◌∙◌, List, ◌∷◌, ℕ, ◌/◌, ◌%◌, length, replicate}
use Rattle.call_bytes.specs.Reply.{Replied, left}
use Rattle.call_signs.specs.declared.Placed.{Placed}
use Rattle.call_signs.specs.declared.Placed.TheVariants.{Value, Refused}
use Rattle.call_signs.specs.Entry.{placed_reply, entering}
use Rattle.replay_rows.specs.declared.Head.{Head}
use Rattle.replay_verdicts.specs.declared.Verdict.{Verdict}
use Rattle.replay_verdicts.specs.Answers.{compared, filler}
use Rattle.replay_signs.specs.Signs.{entered_of}

pub placed_sized : (m : Placed) → length (left (placed_reply m) (replicate 1 filler)) ≡ 1
placed_sized (Value n) = refl
placed_sized (Refused f) = refl

pub entered_compared : (k : Head) (list stored : List ℕ) {r : ℕ} {out : List ℕ} {v : Verdict} →
    Replied (placed_reply (entering k.op k.a list)) (replicate 1 filler) r out →
    v ≡ compared (r % 4294967296 ∷ r / 4294967296 ∷ out) stored → v ≡ compared (entered_of k list) stored
unfolding entered_of
entered_compared k list stored p e = e ∙ rw (p.numbered, p.out_left) refl
