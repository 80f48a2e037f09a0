-- Reading against the definition: it gives a text exactly where the bytes are the encoding of that text, so that each accepted byte string is the
-- only encoding of one text; and else the place of the longest beginning that some accepted byte string has. Assumes nothing.
use Rattle.lists.proofs.Kit.{◌≡◌, refl, sym, subst, List, ◌++◌, false, ◌↔◌, ℕ, suc, ◌+◌, arith, take}
use Rattle.chars.specs.Scalar.{not_scalar}
use Rattle.lists.specs.Lists.{any}
use Rattle.lists.specs.Beginnings.{Begins, Place}
use Rattle.utf8.specs.Encoding.{utf8, Accepted}
use Rattle.utf8.specs.Decoding.{Reading, text, bad, decoding}
use Rattle.utf8.proofs.Sound.{reads_encoded}
use Rattle.utf8.proofs.Complete.{encoded_reads}
use Rattle.utf8.proofs.Places.{IsText, wrong_from}

-- the text is read exactly where it is scalar and its encoding is what was read
pub decoding_text : (b t : List ℕ) → (decoding b ≡ text t) ↔ ((any not_scalar t ≡ false) × (utf8 t ≡ b))
decoding_text b t = (reads_encoded 0 b t, λ w. subst (λ (l : List ℕ). decoding l ≡ text t) w.1 (encoded_reads t 0 w.0))

-- no two texts have one encoding
pub utf8_one : (t u : List ℕ) → any not_scalar t ≡ false → any not_scalar u ≡ false → utf8 t ≡ utf8 u → t ≡ u
utf8_one t u h k e =
    let decoding_is : decoding (utf8 t) ≡ text t = encoded_reads t 0 h in
    let text_is : decoding (utf8 t) ≡ text u = (decoding_text (utf8 t) u).1 (k, sym e) in
    cc

pub read_accepted : (b : List ℕ) (a : Accepted b) → decoding b ≡ text a.text
read_accepted b a = (decoding_text b a.text).1 (a.scalar, a.same)

accepted_text : (b : List ℕ) → IsText (decoding b) → Accepted b
unfolding IsText
accepted_text b is = go (decoding b) refl is
  where
    go : (r : Reading) → decoding b ≡ r → IsText r → Accepted b
    go (text t) e i = let by_reads_encoded = reads_encoded 0 b t e in record { text = t; scalar = by_reads_encoded.0; same = by_reads_encoded.1 }
    go (bad n) e i = absurd i

pub bad_refused : (b : List ℕ) (n : ℕ) → decoding b ≡ bad n → Accepted b → ⊥
bad_refused b n e a =
    let by_read_accepted = read_accepted b a in
    let never : ◌≡◌ {A = ℕ} 0 1 = cc in
    omega arith

-- the place is that of the longest beginning
pub bad_place : (b : List ℕ) (n : ℕ) → decoding b ≡ bad n → Place Accepted b n
bad_place b n e =
    let by_wrong_from = wrong_from b 0 0 0 0 0 (omega arith) n e in
    let passed_is : by_wrong_from.passed ≡ n = omega (arith, by_wrong_from.place) in
    let n_plus_one : n + 1 ≡ suc by_wrong_from.passed = omega arith in
    record {
      inside = omega (arith, by_wrong_from.inside);
      begins = subst (λ (m : ℕ). Begins Accepted (take m b)) passed_is
          (by_wrong_from.rest, accepted_text (take by_wrong_from.passed b ++ by_wrong_from.rest) by_wrong_from.begins);
      longest = λ l g.
          let here = subst (λ (m : ℕ). Accepted (take m b ++ g.0)) n_plus_one g.1 in
          bad_refused (take (suc by_wrong_from.passed) b ++ g.0) n (by_wrong_from.longest (omega arith) g.0) here;
    }
