-- What the public calls of `src/` answer and leave in lent places. Document 02, #105.
-- Definitions only; the laws are in `proofs/Answers.antt` and `proofs/Encodes.antt`. Assumes nothing.
use Rattle.std.specs.Prelude.{◌≡◌, ℕ, List, ◌++◌, cond, leb, ltb, eqb, length, drop, Result, Ok, Err}
use Rattle.lists.specs.Lists.{any}
use Rattle.chars.specs.Scalar.{not_scalar}
use Rattle.utf8.specs.declared.BadAt.{BadAt}
use Rattle.utf8.specs.declared.DecodeError.{DecodeError}
use Rattle.utf8.specs.declared.DecodeError.TheVariants.{Bad, NoRoom}
use Rattle.utf8.specs.declared.EncodeError.{EncodeError}
use Rattle.utf8.specs.declared.EncodeError.TheVariants.{TooLong, NotScalar, NoRoom as EncodeError-as-NoRoom}
use Rattle.utf8.specs.Encoding.{utf8}
use Rattle.utf8.specs.Decoding.{Reading, text, bad, decoding}

-- how many code points were read, or the place
unfoldable pub tally : Reading → Result ℕ BadAt
tally (text t) = Ok (length t)
tally (bad n) = Err (record { place = n })

-- how many code points bytes make, or the place of the first byte that can't stand there
abbrev pub checked : List ℕ → Result ℕ BadAt
checked b = tally (decoding b)

-- the answer of the decoder: `NoRoom` where the room is too small, which comes after the place
unfoldable pub decoded : Reading → ℕ → Result ℕ DecodeError
decoded (text t) room = cond (leb (length t) room) (Ok (length t)) (Err NoRoom)
decoded (bad n) room = Err (Bad (record { place = n }))

-- what it leaves in the room
unfoldable pub decoded_in : Reading → List ℕ → List ℕ
decoded_in (text t) room = cond (leb (length t) (length room)) (t ++ drop (length t) room) room
decoded_in (bad n) room = room

-- 1: more than 1,048,576 code points; 2: a value that is no scalar value; 14: too little room; 0: none of them
unfoldable pub encode_refusal : List ℕ → ℕ → ℕ
encode_refusal t room =
    cond (ltb 1048576 (length t)) 1 (cond (any not_scalar t) 2 (cond (leb (length (utf8 t)) room) 0 14))

-- the refusal of a number
unfoldable pub encode_error : ℕ → EncodeError
encode_error f = cond (eqb f 1) TooLong (cond (eqb f 2) NotScalar EncodeError-as-NoRoom)

-- the answer of the encoder, and what it leaves in the room
unfoldable pub encoded : List ℕ → ℕ → Result ℕ EncodeError
encoded t room = let f = encode_refusal t room in cond (eqb f 0) (Ok (length (utf8 t))) (Err (encode_error f))

unfoldable pub encoded_in : List ℕ → List ℕ → List ℕ
encoded_in t room = cond (eqb (encode_refusal t (length room)) 0) (utf8 t ++ drop (length (utf8 t)) room) room

-- what a call answers, and what it leaves in the room that it is lent
pub record DecodesTo (bytes points : List ℕ) (r : Result ℕ DecodeError) (points' : List ℕ) : Type 0 where
  pub answer : r ≡ decoded (decoding bytes) (length points)
  pub left : points' ≡ decoded_in (decoding bytes) points

pub record EncodesTo (points bytes : List ℕ) (r : Result ℕ EncodeError) (bytes' : List ℕ) : Type 0 where
  pub answer : r ≡ encoded points (length bytes)
  pub left : bytes' ≡ encoded_in points bytes
