-- Laws of comparing an answer with the stored one. Assumes nothing.
use Rattle.std.specs.Str.{bytes_eq}
use Rattle.lists.proofs.Kit.{◌≡◌, refl, ap, sym, ◌∙◌, List, [], ◌∷◌, ◌++◌, ℕ, zero, suc, ◌-◌, ◌≤◌, ◌<◌, arith, length, get_or, take, drop, replicate, length-drop}
use Rattle.lists.proofs.Kit.{take_all, Bool, cond, ◌&&◌, eqb, eq-eqb, ne_eqb}
use Rattle.lists.specs.Lists.{is_same}
use Rattle.lists.proofs.Lists.{drop_at}
use Rattle.lists.proofs.Same.{same_long}
use Rattle.call_bytes.specs.declared.Told.{Told}
use Rattle.call_bytes.specs.declared.Told.TheVariants.{Value, Refused as Told-as-Refused}
use Rattle.call_bytes.specs.Reply.{Reply, Replied, number, left, told}
use Rattle.replay_verdicts.specs.declared.Verdict.{Verdict}
use Rattle.replay_verdicts.specs.declared.Verdict.TheVariants.{Agrees, Differs}
use Rattle.replay_verdicts.specs.Answers.{compared, filler, shown}

-- what `==` tells is whether two lists are the same
same_is : (a b : List ℕ) → bytes_eq a b ≡ is_same a b
unfolding is_same
same_is [] [] = refl
same_is [] (y ∷ b) = refl
same_is (x ∷ a) [] = refl
same_is (x ∷ a) (y ∷ b) = ap (λ t. eqb x y && t) (same_is a b)

-- a number in front, against what stands first
module _ (x : ℕ) (a s : List ℕ) where
  pub compared_none : length s ≡ 0 → Differs ≡ compared (x ∷ a) s
  unfolding compared
  compared_none e = rw (same_long (x ∷ a) s (λ q. absurd (omega arith)))

  first_of : 0 < length s → s ≡ get_or s 0 0 ∷ take (length s - 1) (drop 1 s)
  first_of h = drop_at s 0 h ∙ ap (λ (l : List ℕ). get_or s 0 0 ∷ l) (sym (take_all (length s - 1) (drop 1 s) (omega (arith, length-drop 1 s))))

  pub compared_other : 0 < length s → (get_or s 0 0 ≡ x → ⊥) → Differs ≡ compared (x ∷ a) s
  unfolding compared is_same
  compared_other h n = rw (first_of h, ne_eqb x (get_or s 0 0) (λ e. n (sym e)))

  pub compared_first : 0 < length s → get_or s 0 0 ≡ x → compared (x ∷ a) s ≡ compared a (take (length s - 1) (drop 1 s))
  unfolding compared is_same
  compared_first h e = ap (compared (x ∷ a)) (first_of h) ∙ rw (eq-eqb x (get_or s 0 0) (sym e)) refl

  -- by what `==` tells of the rest
  pub compared_rest : {r : Bool} → 0 < length s → get_or s 0 0 ≡ x → r ≡ bytes_eq a (take (length s - 1) (drop 1 s)) →
      compared (x ∷ a) s ≡ cond r Agrees Differs
  unfolding compared
  compared_rest h e q = compared_first h e ∙ ap (λ t. cond t Agrees Differs) (sym (q ∙ same_is _ _))

-- a call, compared by its number and by what it leaves
pub replied_compared : (n : ℕ) {m : Reply} {r : ℕ} {out : List ℕ} (stored : List ℕ) {v : Verdict} → Replied m (replicate n filler) r out →
    v ≡ compared (r ∷ out) stored →
    v ≡ compared (shown n m) stored
unfolding shown
replied_compared n stored p e = e ∙ rw (p.numbered, p.out_left) refl

-- a reply of one number fills its place
pub told_sized : (t : Told) → length (left (told t) (replicate 1 filler)) ≡ 1
told_sized (Value n) = refl
told_sized (Told-as-Refused f) = refl

pub places_count : (n : ℕ) {m : Reply} {r : ℕ} {out : List ℕ} → Replied m (replicate n filler) r out → length (left m (replicate n filler)) ≡ n → n ≡ length out
places_count n p e = sym (ap length p.out_left ∙ e)

told_single : (t : Told) → left (told t) (filler ∷ []) ≡ get_or (left (told t) (filler ∷ [])) 0 0 ∷ []
told_single (Value n) = refl
told_single (Told-as-Refused f) = refl

-- `wrap_segments`: its number, its one place and the places lent for segments
pub wrapped_compared : (t : Told) (segments stored : List ℕ) {r : ℕ} {out : List ℕ} {v : Verdict} → Replied (told t) (replicate 1 filler) r out →
    v ≡ compared (r ∷ get_or out 0 0 ∷ segments) stored →
    v ≡ compared (number (told t) ∷ (left (told t) (filler ∷ []) ++ segments)) stored
wrapped_compared t segments stored p e = e ∙ rw (p.numbered, p.out_left) (sym (rw (told_single t) refl))

-- the front of places that are all the same
pub take_replicate : (n m x : ℕ) → n ≤ m → take n (replicate m x) ≡ replicate n x
take_replicate zero m x h = refl
take_replicate (suc n) zero x h = absurd (omega arith)
take_replicate (suc n) (suc m) x h = ap (λ (l : List ℕ). x ∷ l) (take_replicate n m x (omega arith))
