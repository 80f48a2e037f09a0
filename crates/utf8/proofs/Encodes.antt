-- What the encoder answers and leaves, by each refusal and by the text. Assumes nothing.
use Rattle.lists.proofs.Kit.{◌≡◌, refl, sym, ◌∙◌, List, ◌++◌, Bool, true, false, cond, ℕ, ◌+◌, ◌≤◌, ◌<◌, arith, length, take, drop, sets, sets-eq, take_at, leb, ltb}
use Rattle.lists.proofs.Kit.{lt-ltb, le-ltb, le-leb, lt-leb, ne_eqb, ltb-true, ltb-false, leb-true, leb-false}
use Rattle.lists.specs.Lists.{any}
use Rattle.chars.specs.Scalar.{not_scalar}
use Rattle.std.proofs.Common.{Ok, Err}
use Rattle.utf8.specs.declared.EncodeError.TheVariants.{TooLong, NotScalar, NoRoom}
use Rattle.utf8.specs.Numbers.{encode_number}
use Rattle.utf8.specs.Encoding.{utf8}
use Rattle.utf8.specs.Decoding.{text, decoding}
use Rattle.utf8.specs.Calls.{encode_refusal, encode_error, encoded, encoded_in, EncodesTo}
use Rattle.utf8.proofs.Complete.{encoded_reads}

module _ (t room : List ℕ) where
  refused_with : (f : ℕ) → encode_refusal t (length room) ≡ f → (f ≡ 0 → ⊥) → EncodesTo t room (Err (encode_error f)) room
  unfolding encoded encoded_in
  refused_with f e n = record { answer = rw (e, ne_eqb f 0 n); left = rw (e, ne_eqb f 0 n) }

  pub encode_long : 1048576 < length t → EncodesTo t room (Err TooLong) room
  unfolding encode_refusal encode_error
  encode_long h = refused_with 1 (rw (lt-ltb 1048576 (length t) h)) (λ z. omega arith)

  module _ (short : length t ≤ 1048576) where
    pub encode_wrong : any not_scalar t ≡ true → EncodesTo t room (Err NotScalar) room
    unfolding encode_refusal encode_error
    encode_wrong e = refused_with 2 (rw (le-ltb 1048576 (length t) short, e)) (λ z. omega arith)

    module _ (scalar : any not_scalar t ≡ false) where
      pub encode_short : length room < length (utf8 t) → EncodesTo t room (Err NoRoom) room
      unfolding encode_refusal encode_error
      encode_short h = refused_with 14 (rw (le-ltb 1048576 (length t) short, scalar, lt-leb (length (utf8 t)) (length room) h)) (λ z. omega arith)

      taken : length (utf8 t) ≤ length room → encode_refusal t (length room) ≡ 0
      unfolding encode_refusal encode_error
      taken h = rw (le-ltb 1048576 (length t) short, scalar, le-leb (length (utf8 t)) (length room) h)

      pub encode_text : (n : ℕ) (bytes : List ℕ) → n ≡ length (utf8 t) → length (utf8 t) ≤ length room → bytes ≡ sets room 0 (utf8 t) →
          EncodesTo t room (Ok n) bytes
      unfolding encoded encoded_in
      encode_text n bytes e h w =
          let at : 0 + length (utf8 t) ≡ length (utf8 t) = omega arith in
          record { answer = rw (taken h, e); left = rw (taken h) (w ∙ sets-eq (utf8 t) room 0 (omega arith) ∙ rw at) }

-- the number of what is refused is that of the definition
pub encode_numbered : (t : List ℕ) (room : ℕ) → (encode_refusal t room ≡ 0 → ⊥) → encode_number (encode_error (encode_refusal t room)) ≡ encode_refusal t room
unfolding encode_refusal encode_error
encode_numbered t room n = go (ltb 1048576 (length t)) (any not_scalar t) (leb (length (utf8 t)) room) n
  where
    number_of : Bool → Bool → Bool → ℕ
    number_of b c d = cond b 1 (cond c 2 (cond d 0 14))

    go : (b c d : Bool) → (number_of b c d ≡ 0 → ⊥) → encode_number (encode_error (number_of b c d)) ≡ number_of b c d
    go true c d n = refl
    go false true d n = refl
    go false false true n = absurd (n refl)
    go false false false n = refl

-- decoding what was encoded returns the code points
pub decoding_encoded : (t room : List ℕ) (n : ℕ) → encoded t (length room) ≡ Ok n → decoding (take n (encoded_in t room)) ≡ text t
decoding_encoded t room n e = go (ltb 1048576 (length t)) (any not_scalar t) (leb (length (utf8 t)) (length room)) refl refl refl
  where
    go : (b c d : Bool) → ltb 1048576 (length t) ≡ b → any not_scalar t ≡ c → leb (length (utf8 t)) (length room) ≡ d →
        decoding (take n (encoded_in t room)) ≡ text t
    go true c d p q r = let by_encode_long = (encode_long t room (ltb-true _ _ p)).answer in let never : ◌≡◌ {A = ℕ} 0 1 = cc in absurd (omega arith)
    go false true d p q r = let by_encode_wrong = (encode_wrong t room (ltb-false _ _ p) q).answer in let never : ◌≡◌ {A = ℕ} 0 1 = cc in absurd (omega arith)
    go false false false p q r =
        let by_encode_short = (encode_short t room (ltb-false _ _ p) q (leb-false _ _ r)).answer in
        let never : ◌≡◌ {A = ℕ} 0 1 = cc in
        absurd (omega arith)
    go false false true p q r =
        let by_encode_text = encode_text t room (ltb-false _ _ p) q (length (utf8 t)) (sets room 0 (utf8 t)) refl (leb-true _ _ r) refl in
        let size_is : length (utf8 t) ≡ n = cc by_encode_text.answer in
        let at : 0 + length (utf8 t) ≡ length (utf8 t) = omega arith in
        let left : encoded_in t room ≡ utf8 t ++ drop (length (utf8 t)) room =
        sym by_encode_text.left ∙ sets-eq (utf8 t) room 0 (omega (arith, leb-true (length (utf8 t)) (length room) r)) ∙ rw at in
        rw (left, take_at (utf8 t) (drop (length (utf8 t)) room) n size_is) (encoded_reads t 0 q)
