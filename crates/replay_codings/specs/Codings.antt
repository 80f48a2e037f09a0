-- What the calls on UTF-8 answer and leave, as the list has it, and the verdict of a case of them. What the contracts of `replay_codings` cite.
-- Definitions only. Assumes nothing.
use Rattle.std.specs.Prelude.{ℕ, ◌/◌, ◌%◌, ◌≡◌, List, [], ◌∷◌, ◌++◌, Bool, true, cond, not, ◌&&◌, leb, ltb, length, take, replicate}
use Rattle.lists.specs.Lists.{any}
use Rattle.call_bytes.specs.Reply.{number, left}
use Rattle.call_utf8.specs.Utf8.{decodes, decodes_in, encodes}
use Rattle.utf8.specs.Calls.{encoded_in}
use Rattle.replay_rows.specs.declared.Head.{Head}
use Rattle.replay_verdicts.specs.declared.Verdict.{Verdict}
use Rattle.replay_verdicts.specs.declared.Verdict.TheVariants.{Malformed}
use Rattle.replay_verdicts.specs.Answers.{compared, filler}

-- a number that is no byte
abbrev pub is_wide : ℕ → Bool
is_wide x = ltb 255 x

-- r tells whether all are bytes; they then stand at the start of the places
pub record Narrowed (numbers : List ℕ) (size : ℕ) (r : Bool) (bytes : List ℕ) : Type 0 where
  pub told : r ≡ not (any is_wide numbers)
  pub front : r ≡ true → take (length numbers) bytes ≡ numbers
  pub same : length bytes ≡ size

-- decoding: the number, the place, the count and the places
unfoldable pub decoded_into : List ℕ → List ℕ → List ℕ
decoded_into bytes points =
    let m = decodes bytes points in
    number m % 4294967296 ∷ number m / 4294967296 ∷ (left m (filler ∷ []) ++ decodes_in bytes points)

-- at most 64 bytes into a places, at most 64
unfoldable pub decode_verdict : Head → List ℕ → List ℕ → Verdict
decode_verdict k bytes stored =
    cond (leb (length bytes) 64 && (leb k.a 64 && not (any is_wide bytes)))
    (compared (decoded_into bytes (replicate k.a filler)) stored) Malformed

-- encoding: the number, the count and the places
unfoldable pub encoded_into : List ℕ → List ℕ → List ℕ
encoded_into points bytes =
    let m = encodes points bytes in
    number m ∷ (left m (filler ∷ []) ++ encoded_in points bytes)

-- into a places, at most 64
unfoldable pub encode_verdict : Head → List ℕ → List ℕ → Verdict
encode_verdict k points stored = cond (leb k.a 64) (compared (encoded_into points (replicate k.a 165)) stored) Malformed
