-- Laws of what is written: one piece after another, bytes one by one, and a number digit by digit. Assumes nothing.
use Rattle.lists.proofs.Kit.{◌≡◌, refl, ap, sym, subst, ◌∙◌, List, [], ◌∷◌, ◌++◌, Bool, true, false, cond, ℕ, zero, suc, ◌+◌, ◌/◌, ◌%◌, ◌^◌, ◌≤◌, ◌<◌, add-zero}
use Rattle.lists.proofs.Kit.{pow-suc, add-one, dec_lt, arith, length, get_or, set, take, length-append, length-set, sets, take-suc, take_all, ltb, lt-ltb, le-ltb}
use Rattle.lists.proofs.Kit.{drop, sets-eq, length-sets, paste}
use Rattle.std.proofs.lemmas.Slice.{put_mid-paste}
use borrow.Rule.Slice.PartMut.{put_mid}
use Rattle.print.specs.Print.{Wrote, spell, decimal}

-- one after another
sets_append : (x y out : List ℕ) (at : ℕ) → sets out at (x ++ y) ≡ sets (sets out at x) (at + length x) y
sets_append [] y out at = rw add-zero
sets_append (a ∷ x) y out at = sets_append x y (set out at a) (suc at) ∙ ap (λ (n : ℕ). sets (sets (set out at a) (suc at) x) n y) (omega arith)

pub wrote_then : {out : List ℕ} {at : ℕ} {x y : List ℕ} {b c : ℕ} {o p : List ℕ} → Wrote out at x b o → Wrote o b y c p → Wrote out at (x ++ y) c p
wrote_then {out} {at} {x} {y} h k =
    record {
      next = omega (arith, length-append x y, h.next, k.next);
      left = k.left ∙ rw (h.left, h.next) (sym (sets_append x y out at));
      size = k.size ∙ h.size;
    }

pub wrote_none : (out : List ℕ) (at : ℕ) → Wrote out at [] at out
wrote_none out at = record { next = sym (add-zero at); left = refl; size = refl }

-- digits: enough places are enough
enough : (k n : ℕ) → n < 10 ^ k → 0 < k → spell (suc k) n ≡ spell k n
unfolding spell
enough zero n h p = absurd (omega arith)
enough (suc j) n h p = go (dec_lt n 10) (dec_lt 0 j) (λ q r. enough j (n / 10) q r)
  where
    go : Dec (n < 10) → Dec (0 < j) → (n / 10 < 10 ^ j → 0 < j → spell (suc j) (n / 10) ≡ spell j (n / 10)) → spell (suc (suc j)) n ≡ spell (suc j) n
    go (yes l) d ih = rw (lt-ltb n 10 l)
    go (no l) (yes q) ih = rw (le-ltb n 10 (omega arith)) (ap (λ (s : List ℕ). s ++ ((48 + n % 10) ∷ [])) (ih (omega (arith, pow-suc 10 j)) q))
    go (no l) (no q) ih =
        let j_is : j ≡ 0 = omega arith in
        absurd (omega (arith, ap (λ (i : ℕ). 10 ^ suc i) j_is))

pub decimal_small : (n : ℕ) → n < 10 → decimal n ≡ (48 + n) ∷ []
unfolding decimal spell
decimal_small n h = rw (lt-ltb n 10 h)

pub decimal_more : (n : ℕ) → 10 ≤ n → n < 2 ^ 32 → decimal n ≡ decimal (n / 10) ++ ((48 + n % 10) ∷ [])
unfolding decimal spell
decimal_more n h k = rw (le-ltb n 10 h) (ap (λ (s : List ℕ). s ++ ((48 + n % 10) ∷ [])) (sym (enough 9 (n / 10) (omega arith) (omega arith))))

pub length_spell : (k n : ℕ) → length (spell k n) ≤ k
unfolding spell
length_spell zero n = omega arith
length_spell (suc k) n = go (ltb n 10) (length_spell k (n / 10))
  where
    go : (b : Bool) → length (spell k (n / 10)) ≤ k → length (cond b ((48 + n) ∷ []) (spell k (n / 10) ++ ((48 + n % 10) ∷ []))) ≤ suc k
    go true h = omega arith
    go false h = simp length-append (omega arith)

pub length_decimal : (n : ℕ) → length (decimal n) ≤ 10
unfolding decimal
length_decimal n = length_spell 10 n

pub length_small : (n : ℕ) → n < 10 → length (decimal n) ≡ 1
length_small n h = ap length (decimal_small n h)

pub length_more : (n : ℕ) → 10 ≤ n → n < 2 ^ 32 → length (decimal n) ≡ length (decimal (n / 10)) + 1
length_more n h k = ap length (decimal_more n h k) ∙ length-append (decimal (n / 10)) _

-- a number written
pub wrote_small : {out : List ℕ} {at n b : ℕ} {o : List ℕ} → n < 10 → Wrote out at ((48 + n) ∷ []) b o → Wrote out at (decimal n) b o
wrote_small {out} {at} {n} {b} {o} h w = subst (λ (s : List ℕ). Wrote out at s b o) (sym (decimal_small n h)) w

pub wrote_more : {out : List ℕ} {at n b c : ℕ} {o p : List ℕ} → 10 ≤ n → n < 2 ^ 32 → Wrote out at (decimal (n / 10)) b o → Wrote o b ((48 + n % 10) ∷ []) c p →
    Wrote out at (decimal n) c p
wrote_more {out} {at} {n} {b} {c} {o} {p} h k v w = subst (λ (s : List ℕ). Wrote out at s c p) (sym (decimal_more n h k)) (wrote_then v w)

-- s written over a part at once: ys is what the part of k places holds then
pub wrote_put : {out s ys : List ℕ} {at k b : ℕ} → ys ≡ s → length s ≡ k → at + length s ≤ length out → b ≡ at + length s →
    Wrote out at s b (put_mid at k out ys)
wrote_put {out} {s} {ys} {at} {k} q n h e =
    let pasted : put_mid at k out ys ≡ paste out at s (length s) = put_mid-paste at k out ys s (length s) q n refl in
    let whole : paste out at s (length s) ≡ sets out at s =
    ap (λ (x : List ℕ). take at out ++ x ++ drop (at + length s) out) (take_all (length s) s (omega arith)) ∙ sym (sets-eq s out at h) in
    let left : put_mid at k out ys ≡ sets out at s = pasted ∙ whole in
    record { next = e; left = left; size = ap length left ∙ length-sets out at s }

-- one byte more of s
pub wrote_byte : {out o : List ℕ} {at : ℕ} (s : List ℕ) (i : ℕ) → Wrote out at (take i s) (at + i) o → i < length s →
    Wrote out at (take (i + 1) s) (at + (i + 1)) (set o (at + i) (get_or s i 0))
wrote_byte {out} {o} {at} s i w h =
    let wrote : Wrote o (at + i) (get_or s i 0 ∷ []) (at + (i + 1)) (set o (at + i) (get_or s i 0)) =
    record { next = omega arith; left = refl; size = length-set o (at + i) (get_or s i 0) } in
    rw (add-one i, take-suc s i 0 h) (rw (add-one i) at (wrote_then w wrote))

pub wrote_bytes : {out o : List ℕ} {at : ℕ} (s : List ℕ) (i : ℕ) → Wrote out at (take i s) (at + i) o → length s ≤ i → Wrote out at s (at + i) o
wrote_bytes {out} {o} {at} s i w h = rw (take_all i s h) at w
