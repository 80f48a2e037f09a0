-- What the calls on UTF-8 reply, by each answer of the decoder and of the encoder. Assumes nothing.
use Rattle.lists.proofs.Kit.{◌≡◌, ◌∙◌, List, [], ◌∷◌, ℕ, ◌+◌, ◌*◌, ◌≤◌, ◌<◌, length, lt-ltb, le-ltb}
use Rattle.std.proofs.Common.{Ok, Err}
use Rattle.utf8.specs.declared.BadAt.{BadAt}
use Rattle.utf8.specs.declared.DecodeError.TheVariants.{Bad, NoRoom}
use Rattle.utf8.specs.declared.EncodeError.{EncodeError}
use Rattle.utf8.specs.Numbers.{encode_number}
use Rattle.utf8.specs.Decoding.{decoding}
use Rattle.utf8.specs.Calls.{decoded, decoded_in, encoded}
use Rattle.call_bytes.specs.Reply.{Replied, told}
use Rattle.call_bytes.specs.declared.Told.TheVariants.{Value, Refused}
use Rattle.call_utf8.specs.Utf8.{told_decoded, decodes, decodes_in, told_encoded, encodes}

module _ (b points out : List ℕ) where
  pub decode_long : 4294967295 < length b → Replied (decodes b points) out 103 out × (points ≡ decodes_in b points)
  unfolding decodes decodes_in
  decode_long h =
      let by_lt_ltb = lt-ltb 4294967295 (length b) h in
      (record { numbered = rw by_lt_ltb; out_left = rw by_lt_ltb }, rw by_lt_ltb)

  module _ (short : length b ≤ 4294967295) (points' : List ℕ) (left : points' ≡ decoded_in (decoding b) points) where
    leaves : points' ≡ decodes_in b points
    unfolding decodes_in
    leaves = left ∙ rw (le-ltb 4294967295 (length b) short)

    pub decode_text : (n : ℕ) → decoded (decoding b) (length points) ≡ Ok n → Replied (decodes b points) out 0 (n ∷ []) × (points' ≡ decodes_in b points)
    unfolding decodes told_decoded
    decode_text n e =
        let by_le_ltb = le-ltb 4294967295 (length b) short in
        (record { numbered = rw (by_le_ltb, e); out_left = rw (by_le_ltb, e) }, leaves)

    pub decode_bad : (at : BadAt) → decoded (decoding b) (length points) ≡ Err (Bad at) →
        Replied (decodes b points) out (13 + 4294967296 * at.place) out × (points' ≡ decodes_in b points)
    unfolding decodes told_decoded
    decode_bad at e =
        let by_le_ltb = le-ltb 4294967295 (length b) short in
        (record { numbered = rw (by_le_ltb, e); out_left = rw (by_le_ltb, e) }, leaves)

    pub decode_short : decoded (decoding b) (length points) ≡ Err NoRoom → Replied (decodes b points) out 14 out × (points' ≡ decodes_in b points)
    unfolding decodes told_decoded
    decode_short e =
        let by_le_ltb = le-ltb 4294967295 (length b) short in
        (record { numbered = rw (by_le_ltb, e); out_left = rw (by_le_ltb, e) }, leaves)

module _ (t bytes : List ℕ) {out out' : List ℕ} {r : ℕ} where
  pub encode_bytes : (n : ℕ) → encoded t (length bytes) ≡ Ok n → Replied (told (Value n)) out r out' → Replied (encodes t bytes) out r out'
  unfolding told_encoded
  encode_bytes n e p = rw e p

  pub encode_refused : (e : EncodeError) → encoded t (length bytes) ≡ Err e → Replied (told (Refused (encode_number e))) out r out' →
      Replied (encodes t bytes) out r out'
  unfolding told_encoded
  encode_refused e is p = rw is p
