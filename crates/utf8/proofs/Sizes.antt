-- How large what is answered is: no more code points than bytes, a place within them, and at most four bytes for a code point. Assumes nothing.
use Rattle.lists.proofs.Kit.{◌≡◌, refl, ap, List, [], ◌∷◌, Bool, true, false, cond, ℕ, ◌*◌, ◌≤◌, ◌<◌, dec_lt, arith, length, length-append, leb, ltb, eqb}
use Rattle.lists.proofs.Kit.{ltb-false}
use Rattle.lists.specs.Lists.{any}
use Rattle.chars.specs.Scalar.{not_scalar}
use Rattle.std.proofs.Common.{Ok, Err}
use Rattle.utf8.specs.declared.BadAt.{BadAt}
use Rattle.utf8.specs.declared.DecodeError.TheVariants.{Bad, NoRoom}
use Rattle.utf8.specs.Encoding.{encoding, utf8}
use Rattle.utf8.specs.Decoding.{Reading, text, bad, decoding}
use Rattle.utf8.specs.Calls.{decoded, encode_refusal, encode_error, encoded}
use Rattle.utf8.proofs.Encodings.{size_one, size_two, size_three, size_four, size_most}
use Rattle.utf8.proofs.Sound.{reads_encoded}
use Rattle.utf8.proofs.Accepts.{bad_place}

size_least : (x : ℕ) → 1 ≤ length (encoding x)
size_least x = go (dec_lt x 0x80) (dec_lt x 0x800) (dec_lt x 0x10000)
  where
    go : Dec (x < 0x80) → Dec (x < 0x800) → Dec (x < 0x10000) → 1 ≤ length (encoding x)
    go (yes h) k l = omega (arith, size_one x h)
    go (no h) (yes k) l = omega (arith, size_two x (omega arith) k)
    go (no h) (no k) (yes l) = omega (arith, size_three x (omega arith) l)
    go (no h) (no k) (no l) = omega (arith, size_four x (omega arith))

pub utf8_least : (t : List ℕ) → length t ≤ length (utf8 t)
unfolding utf8
utf8_least [] = omega arith
utf8_least (x ∷ t) = simp length-append (omega (arith, size_least x, utf8_least t))

pub utf8_most : (t : List ℕ) → length (utf8 t) ≤ 4 * length t
unfolding utf8
utf8_most [] = omega arith
utf8_most (x ∷ t) = simp length-append (omega (arith, size_most x, utf8_most t))

pub text_most : (b t : List ℕ) → decoding b ≡ text t → length t ≤ length b
text_most b t e = omega (arith, utf8_least t, ap length (reads_encoded 0 b t e).1)

pub decoded_most : (b : List ℕ) (room n : ℕ) → decoded (decoding b) room ≡ Ok n → n ≤ length b
unfolding decoded
decoded_most b room n e = go (decoding b) refl e
  where
    go : (r : Reading) → decoding b ≡ r → decoded r room ≡ Ok n → n ≤ length b
    go (text t) p q = fits (leb (length t) room) refl q
      where
        fits : (c : Bool) → leb (length t) room ≡ c → cond c (Ok (length t)) (Err NoRoom) ≡ Ok n → n ≤ length b
        fits true h f = let size_is : length t ≡ n = cc in omega (arith, text_most b t p)
        fits false h f = let never : ◌≡◌ {A = ℕ} 0 1 = cc in absurd (omega arith)
    go (bad place) p q = let never : ◌≡◌ {A = ℕ} 0 1 = cc in absurd (omega arith)

pub bad_most : (b : List ℕ) (room : ℕ) (at : BadAt) → decoded (decoding b) room ≡ Err (Bad at) → at.place ≤ length b
unfolding decoded
bad_most b room at e = go (decoding b) refl e
  where
    go : (r : Reading) → decoding b ≡ r → decoded r room ≡ Err (Bad at) → at.place ≤ length b
    go (text t) p q = fits (leb (length t) room) q
      where
        fits : (c : Bool) → cond c (Ok (length t)) (Err NoRoom) ≡ Err (Bad at) → at.place ≤ length b
        fits true f = let never : ◌≡◌ {A = ℕ} 0 1 = cc in absurd (omega arith)
        fits false f = let never : ◌≡◌ {A = ℕ} 0 1 = cc in absurd (omega arith)
    go (bad n) p q =
        let at_is : record { place = n } ≡ at = cc in
        omega (arith, ap (λ (a : BadAt). a.place) at_is, (bad_place b n p).inside)

pub encoded_most : (t : List ℕ) (room n : ℕ) → encoded t room ≡ Ok n → n ≤ 4194304
unfolding encoded encode_refusal
encoded_most t room n e = go (ltb 1048576 (length t)) (any not_scalar t) (leb (length (utf8 t)) room) refl e
  where
    go : (b c d : Bool) → ltb 1048576 (length t) ≡ b →
        cond (eqb (cond b 1 (cond c 2 (cond d 0 14))) 0) (Ok (length (utf8 t))) (Err (encode_error (cond b 1 (cond c 2 (cond d 0 14))))) ≡ Ok n →
        n ≤ 4194304
    go true c d p q = let never : ◌≡◌ {A = ℕ} 0 1 = cc in absurd (omega arith)
    go false true d p q = let never : ◌≡◌ {A = ℕ} 0 1 = cc in absurd (omega arith)
    go false false true p q = let size_is : length (utf8 t) ≡ n = cc in omega (arith, utf8_most t, ltb-false 1048576 (length t) p)
    go false false false p q = let never : ◌≡◌ {A = ℕ} 0 1 = cc in absurd (omega arith)
