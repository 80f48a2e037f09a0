-- An answer of two parts, compared part by part. Assumes nothing.
use Rattle.lists.proofs.Kit.{◌≡◌, refl, ◌∙◌, List, [], ◌∷◌, ◌++◌, Bool, true, false, cond, ◌&&◌, ℕ, ◌<◌, arith, length, take, drop, replicate, length-append}
use Rattle.lists.proofs.Kit.{eqb}
use Rattle.lists.specs.Lists.{is_same}
use Rattle.lists.proofs.Same.{same_long}
use Rattle.motions.specs.declared.Moved.{Moved}
use Rattle.motions.specs.declared.Moved.TheVariants.{To, Refused as Moved-as-Refused}
use Rattle.call_texts.specs.Carets.{moved}
use Rattle.call_bytes.specs.Reply.{Reply, Replied, number, left}
use Rattle.replay_verdicts.specs.declared.Verdict.{Verdict}
use Rattle.replay_verdicts.specs.declared.Verdict.TheVariants.{Agrees, Differs, Malformed}
use Rattle.replay_verdicts.specs.Answers.{compared, filler}

pub same_parts : (a b s : List ℕ) → is_same (a ++ b) s ≡ (is_same a (take (length a) s) && is_same b (drop (length a) s))
unfolding is_same
same_parts [] b s = refl
same_parts (x ∷ a) b [] = refl
same_parts (x ∷ a) b (y ∷ s) = go (eqb x y) (same_parts a b s)
  where
    go : (t : Bool) → is_same (a ++ b) s ≡ (is_same a (take (length a) s) && is_same b (drop (length a) s)) →
        (t && is_same (a ++ b) s) ≡ ((t && is_same a (take (length a) s)) && is_same b (drop (length a) s))
    go true e = e
    go false e = refl

-- n is the length of the first part
module _ (a b s : List ℕ) (n : ℕ) (h : n ≡ length a) where
  pub parts_short : length s < n → Differs ≡ compared (a ++ b) s
  unfolding compared
  parts_short short = rw (same_long (a ++ b) s (λ q. absurd (omega (arith, q, h, length-append a b))))

  first : Bool
  first = is_same a (take (length a) s)

  told_first : (v : Verdict) → compared a (take n s) ≡ v → cond first Agrees Differs ≡ v
  unfolding compared first
  told_first v e = rw h at e

  -- the first part agrees, or it does not
  pub parts_agree : compared a (take n s) ≡ Agrees → compared b (drop n s) ≡ compared (a ++ b) s
  unfolding compared first
  parts_agree e = rw h (go (is_same a (take (length a) s)) refl (told_first Agrees e))
    where
      go : (t : Bool) → is_same a (take (length a) s) ≡ t → cond t Agrees Differs ≡ Agrees →
          cond (is_same b (drop (length a) s)) Agrees Differs ≡ cond (is_same (a ++ b) s) Agrees Differs
      go true p q = rw (same_parts a b s, p)
      go false p q = let never : ◌≡◌ {A = ℕ} 0 1 = cc q in absurd (omega arith)

  pub parts_differ : compared a (take n s) ≡ Differs → Differs ≡ compared (a ++ b) s
  unfolding compared first
  parts_differ e = go (is_same a (take (length a) s)) refl (told_first Differs e)
    where
      go : (t : Bool) → is_same a (take (length a) s) ≡ t → cond t Agrees Differs ≡ Differs → Differs ≡ cond (is_same (a ++ b) s) Agrees Differs
      go true p q = let never : ◌≡◌ {A = ℕ} 0 1 = cc q in absurd (omega arith)
      go false p q = rw (same_parts a b s, p)

  pub parts_formed : {A : Type 0} → compared a (take n s) ≡ Malformed → A
  unfolding compared first
  parts_formed {A} e = go (is_same a (take (length a) s)) (told_first Malformed e)
    where
      go : (t : Bool) → cond t Agrees Differs ≡ Malformed → A
      go true q = let never : ◌≡◌ {A = ℕ} 0 1 = cc q in absurd (omega arith)
      go false q = let never : ◌≡◌ {A = ℕ} 0 1 = cc q in absurd (omega arith)

-- a call, compared by its number, by its places and by the slice that it leaves
pub slice_compared :
    (n : ℕ) {m : Reply} {r : ℕ} {out slice slice' : List ℕ} (stored : List ℕ) {v : Verdict} → Replied m (replicate n filler) r out → slice ≡ slice' →
    v ≡ compared (r ∷ (out ++ slice)) stored → v ≡ compared (number m ∷ (left m (replicate n filler) ++ slice')) stored
slice_compared n stored p q e = e ∙ rw (p.numbered, p.out_left, q) refl

-- the places that a motion fills
pub moved_sized : (m : Moved) → length (left (moved m) (replicate 4 filler)) ≡ 4
unfolding moved
moved_sized (To k) = refl
moved_sized (Moved-as-Refused f) = refl
