-- The replies of calls on UTF-8: number, place and values of each answer of the decoder and of the encoder. Cited by `call_utf8` and `exports`.
-- Definitions only. Assumes nothing.
use Rattle.std.specs.Prelude.{ℕ, ◌+◌, ◌*◌, List, [], ◌∷◌, cond, ltb, length, Result, Ok, Err}
use Rattle.utf8.specs.declared.DecodeError.{DecodeError}
use Rattle.utf8.specs.declared.DecodeError.TheVariants.{Bad, NoRoom}
use Rattle.utf8.specs.declared.EncodeError.{EncodeError}
use Rattle.utf8.specs.Numbers.{encode_number}
use Rattle.utf8.specs.Decoding.{decoding}
use Rattle.utf8.specs.Calls.{decoded, decoded_in, encoded}
use Rattle.call_bytes.specs.Reply.{Reply, answer, refused}

-- how many code points; 13 with the place in the high half of 64 bits; or another number
unfoldable pub told_decoded : Result ℕ DecodeError → Reply
told_decoded (Ok n) = answer (n ∷ [])
told_decoded (Err (Bad at)) = refused (13 + 4294967296 * at.place)
told_decoded (Err NoRoom) = refused 14

-- more bytes than a u32 counts: 103, before anything else, so that count and place always fit
unfoldable pub decodes : List ℕ → List ℕ → Reply
decodes b points = cond (ltb 4294967295 (length b)) (refused 103) (told_decoded (decoded (decoding b) (length points)))

-- what is left in the places lent for code points
unfoldable pub decodes_in : List ℕ → List ℕ → List ℕ
decodes_in b points = cond (ltb 4294967295 (length b)) points (decoded_in (decoding b) points)

-- how many bytes, or the number
unfoldable pub told_encoded : Result ℕ EncodeError → Reply
told_encoded (Ok n) = answer (n ∷ [])
told_encoded (Err e) = refused (encode_number e)

abbrev pub encodes : List ℕ → List ℕ → Reply
encodes t bytes = told_encoded (encoded t (length bytes))
