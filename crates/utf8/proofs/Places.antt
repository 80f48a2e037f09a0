-- Where reading goes wrong: the bytes before that place begin a string that is read, and with the byte there they begin none. Assumes nothing.
use Rattle.lists.proofs.Kit.{◌≡◌, refl, ap, List, [], ◌∷◌, ◌++◌, Bool, true, false, cond, ◌&&◌, ℕ, zero, suc, ◌+◌, ◌*◌, ◌-◌, ◌≤◌, ◌<◌, arith, length, take, leb}
use Rattle.lists.proofs.Kit.{le-leb}
use Rattle.utf8.specs.Decoding.{Reading, text, bad, onto, is_lead, tails_of, low_of, high_of, bits_of, ended, reading}
use Rattle.utf8.proofs.Leads.{low_high}

-- something is read
unfoldable pub IsText : Reading → Type 0
IsText (text t) = Unit {0}
IsText (bad n) = ⊥

ended_text : (left value : ℕ) (r : Reading) → IsText r → IsText (ended left value r)
unfolding IsText ended onto
ended_text zero value (text t) i = i
ended_text zero value (bad n) i = i
ended_text (suc left) value r i = i

-- from a place where nothing has gone wrong, some bytes lead to the end of a text
finish : (left low high value at : ℕ) → low ≤ high → (c : List ℕ) × IsText (reading left low high value at c)
unfolding reading IsText
finish zero low high value at h = ([], tt)
finish (suc left) low high value at h =
    let by_finish = finish left 0x80 0xbf (value * 64 + (low - 0x80)) (at + 1) (omega arith) in (
      low ∷ by_finish.0,
      rw (le-leb low low (omega arith), le-leb low high h)
          (ended_text left (value * 64 + (low - 0x80)) (reading left 0x80 0xbf (value * 64 + (low - 0x80)) (at + 1) by_finish.0) by_finish.1),
    )

-- s goes wrong at n, where its first byte stands at index at
pub record Wrong (left low high value at : ℕ) (s : List ℕ) (n : ℕ) : Type 0 where
  pub passed : ℕ
  pub place : n ≡ at + passed
  pub inside : passed ≤ length s
  pub rest : List ℕ
  pub begins : IsText (reading left low high value at (take passed s ++ rest))
  pub longest : passed < length s → (u : List ℕ) → reading left low high value at (take (suc passed) s ++ u) ≡ bad n

bad_ended : (left value n : ℕ) (r : Reading) → ended left value r ≡ bad n → r ≡ bad n
unfolding ended onto
bad_ended zero value n (text t) e = let never : ◌≡◌ {A = ℕ} 0 1 = cc in absurd (omega arith)
bad_ended zero value n (bad m) e = e
bad_ended (suc left) value n r e = e

ended_bad : (left value n : ℕ) (r : Reading) → r ≡ bad n → ended left value r ≡ bad n
unfolding ended onto
ended_bad zero value n r e = rw e
ended_bad (suc left) value n r e = e

pub wrong_from : (s : List ℕ) (left low high value at : ℕ) → low ≤ high → (n : ℕ) → reading left low high value at s ≡ bad n → Wrong left low high value at s n
unfolding reading IsText
wrong_from [] zero low high value at h n e = let never : ◌≡◌ {A = ℕ} 0 1 = cc in absurd (omega arith)
wrong_from [] (suc left) low high value at h n e =
    let at_is : at ≡ n = cc in
    let by_finish = finish (suc left) low high value at h in
    record { passed = 0; place = omega arith; inside = omega arith; rest = by_finish.0; begins = by_finish.1; longest = λ l. absurd (omega arith) }
wrong_from (a ∷ s) zero low high value at h n e = go (is_lead a) refl e (wrong_from s (tails_of a) (low_of a) (high_of a) (bits_of a) (at + 1) (low_high a) n)
  where
    r : List ℕ → Reading
    r = reading (tails_of a) (low_of a) (high_of a) (bits_of a) (at + 1)

    go : (b : Bool) → is_lead a ≡ b → cond b (ended (tails_of a) (bits_of a) (r s)) (bad at) ≡ bad n →
        (r s ≡ bad n → Wrong (tails_of a) (low_of a) (high_of a) (bits_of a) (at + 1) s n) → Wrong 0 low high value at (a ∷ s) n
    go true l q ih =
        let by_ih = ih (bad_ended (tails_of a) (bits_of a) n (r s) q) in
        record {
          passed = suc by_ih.passed;
          place = omega (arith, by_ih.place);
          inside = omega (arith, by_ih.inside);
          rest = by_ih.rest;
          begins = rw l (ended_text (tails_of a) (bits_of a) (r (take by_ih.passed s ++ by_ih.rest)) by_ih.begins);
          longest = λ m u. rw l (ended_bad (tails_of a) (bits_of a) n (r (take (suc by_ih.passed) s ++ u)) (by_ih.longest (omega arith) u));
        }
    go false l q ih =
        let at_is : at ≡ n = cc in
        record { passed = 0; place = omega arith; inside = omega arith; rest = []; begins = tt; longest = λ m u. rw l (ap bad at_is) }
wrong_from (a ∷ s) (suc left) low high value at h n e =
    go (leb low a && leb a high) refl e (wrong_from s left 0x80 0xbf (value * 64 + (a - 0x80)) (at + 1) (omega arith) n)
  where
    bits : ℕ
    bits = value * 64 + (a - 0x80)

    r : List ℕ → Reading
    r = reading left 0x80 0xbf bits (at + 1)

    go : (b : Bool) → (leb low a && leb a high) ≡ b → cond b (ended left bits (r s)) (bad at) ≡ bad n →
        (r s ≡ bad n → Wrong left 0x80 0xbf bits (at + 1) s n) → Wrong (suc left) low high value at (a ∷ s) n
    go true l q ih =
        let by_ih = ih (bad_ended left bits n (r s) q) in
        record {
          passed = suc by_ih.passed;
          place = omega (arith, by_ih.place);
          inside = omega (arith, by_ih.inside);
          rest = by_ih.rest;
          begins = rw l (ended_text left bits (r (take by_ih.passed s ++ by_ih.rest)) by_ih.begins);
          longest = λ m u. rw l (ended_bad left bits n (r (take (suc by_ih.passed) s ++ u)) (by_ih.longest (omega arith) u));
        }
    go false l q ih =
        let at_is : at ≡ n = cc in
        let by_finish = finish (suc left) low high value at h in
        record { passed = 0; place = omega arith; inside = omega arith; rest = by_finish.0; begins = by_finish.1; longest = λ m u. rw l (ap bad at_is) }
