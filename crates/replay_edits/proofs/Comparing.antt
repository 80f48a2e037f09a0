-- Laws of what an edit comes to, and of what stands at the start of room. Assumes nothing.
use borrow.Rule.Slice.PartMut.{put_mid}
use Rattle.std.proofs.lemmas.Slice.{put_mid-paste}
use Rattle.lists.proofs.Kit.{ap, sym, ◌+◌, drop, sets, length-sets, paste, take_all}
use Rattle.lists.proofs.Kit.{◌≡◌, refl, ◌∙◌, List, [], ◌∷◌, ◌++◌, ℕ, ◌≤◌, arith, length, take, sets-eq, take_at, eq-eqb, ne_eqb}
use Rattle.print.specs.Print.{Wrote}
use Rattle.call_edits.specs.Edits.{position_at}
use Rattle.replay_rows.specs.declared.Head.{Head}
use Rattle.replay_verdicts.specs.declared.Verdict.{Verdict}
use Rattle.replay_verdicts.specs.Answers.{compared}
use Rattle.replay_edits.specs.Edits.{from, to, put, caret_lent, sizes_lent, Edits, edited_into}

-- numbers written over a part at once: ys is what the part of k places holds then
pub wrote_put : {out s ys : List ℕ} {at k n : ℕ} → ys ≡ s → length s ≡ k → at + length s ≤ length out → n ≡ at + length s →
    Wrote out at s n (put_mid at k out ys)
wrote_put {out} {s} {ys} {at} {k} q n h e =
    let pasted : put_mid at k out ys ≡ paste out at s (length s) = put_mid-paste at k out ys s (length s) q n refl in
    let whole : paste out at s (length s) ≡ sets out at s =
    ap (λ (x : List ℕ). take at out ++ x ++ drop (at + length s) out) (take_all (length s) s (omega arith)) ∙ sym (sets-eq s out at h) in
    let left : put_mid at k out ys ≡ sets out at s = pasted ∙ whole in
    record { next = e; left = left; size = ap length left ∙ length-sets out at s }

-- what was written stands at the start
pub written_front : {room out s : List ℕ} {n : ℕ} → Wrote room 0 s n out → length s ≤ length room → take n out ≡ s
written_front {room} {out} {s} {n} w h =
    let size : length s ≡ n = omega (arith, w.next) in
    rw (w.left, sets-eq s room 0 (omega arith)) (take_at s _ n size)

pub lent_front : {room out s : List ℕ} {n : ℕ} → Wrote room 0 s n out → length s ≤ length room → take (length s) out ≡ s
lent_front {room} {out} {s} {n} w h = let size : n ≡ length s = omega (arith, w.next) in rw size at (written_front w h)

-- the operation
module _ (k : Head) (c : List ℕ) where
  pub to_insert : k.op ≡ 0 → to k ≡ from k
  unfolding to
  to_insert e = rw (eq-eqb k.op 0 e)

  pub put_insert : k.op ≡ 0 → put k c ≡ c
  unfolding put
  put_insert e = rw (eq-eqb k.op 0 e)

  pub to_delete : (k.op ≡ 0 → ⊥) → to k ≡ position_at k.c k.d
  unfolding to
  to_delete n = rw (ne_eqb k.op 0 n)

  pub put_delete : (k.op ≡ 0 → ⊥) → put k c ≡ []
  unfolding put
  put_delete n = rw (ne_eqb k.op 0 n)

-- what is compared is what the definitions give
pub edited_compared : (k : Head) (c buf fold stored : List ℕ) {r : ℕ} {buf' fold' caret' sizes' : List ℕ} {v : Verdict} →
    Edits k c buf fold (caret_lent k) (sizes_lent k) r buf' fold' caret' sizes' →
    v ≡ compared (r ∷ (((caret' ++ sizes') ++ buf') ++ fold')) stored → v ≡ compared (edited_into k c buf fold) stored
unfolding edited_into
edited_compared k c buf fold stored h e = e ∙ rw (h.caret_left.numbered, h.caret_left.out_left, h.sizes_left.out_left, h.text_left, h.folds_left) refl
