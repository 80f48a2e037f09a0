-- UTF-8 read byte by byte: the text, or the place of the first byte that can't stand there. By the syntax of RFC 3629, section 4.
-- Definitions only. That a text is read exactly where it is scalar and `utf8` of it is what was read: `reads_encoded` and `encoded_reads`; that the
-- place is that of the longest beginning: `bad_place`; all in `proofs/`. Assumes nothing.
use Rattle.std.specs.Prelude.{ℕ, zero, suc, ◌+◌, ◌*◌, ◌-◌, List, [], ◌∷◌, Bool, cond, ◌&&◌, ◌||◌, leb, ltb, eqb}

-- what was read: a text, or that it goes wrong at a place
pub data Reading : Type 0 where
  text : List ℕ → Reading
  bad : ℕ → Reading

-- with x in front
unfoldable pub onto : ℕ → Reading → Reading
onto x (text t) = text (x ∷ t)
onto x (bad n) = bad n

-- a byte that begins a sequence: 00..7F, C2..F4
unfoldable pub is_lead : ℕ → Bool
is_lead a = ltb a 0x80 || (leb 0xc2 a && leb a 0xf4)

-- how many bytes follow it
unfoldable pub tails_of : ℕ → ℕ
tails_of a = cond (ltb a 0x80) 0 (cond (ltb a 0xe0) 1 (cond (ltb a 0xf0) 2 3))

-- the least and the greatest second byte: E0 A0..BF, F0 90..BF, ED 80..9F, F4 80..8F, else 80..BF
unfoldable pub low_of : ℕ → ℕ
low_of a = cond (eqb a 0xe0) 0xa0 (cond (eqb a 0xf0) 0x90 0x80)

unfoldable pub high_of : ℕ → ℕ
high_of a = cond (eqb a 0xed) 0x9f (cond (eqb a 0xf4) 0x8f 0xbf)

-- the bits of the value that it holds
unfoldable pub bits_of : ℕ → ℕ
bits_of a = cond (ltb a 0x80) a (cond (ltb a 0xe0) (a - 0xc0) (cond (ltb a 0xf0) (a - 0xe0) (a - 0xf0)))

-- a sequence that has no byte left ends with its value
unfoldable pub ended : ℕ → ℕ → Reading → Reading
ended zero value r = onto value r
ended (suc left) value r = r

-- what is read from index at on, where a sequence has so many bytes left, the next of them from low to high, those after it 80..BF, and holds
-- these bits so far; with none left a sequence begins
unfoldable pub reading : ℕ → ℕ → ℕ → ℕ → ℕ → List ℕ → Reading
reading zero low high value at [] = text []
reading (suc left) low high value at [] = bad at
reading zero low high value at (a ∷ s) =
    let r = reading (tails_of a) (low_of a) (high_of a) (bits_of a) (at + 1) s in
    cond (is_lead a) (ended (tails_of a) (bits_of a) r) (bad at)
reading (suc left) low high value at (a ∷ s) =
    let bits = value * 64 + (a - 0x80) in
    let r = reading left 0x80 0xbf bits (at + 1) s in
    cond (leb low a && leb a high) (ended left bits r) (bad at)

-- from index at on, at the start of a sequence
abbrev pub reading_from : ℕ → List ℕ → Reading
reading_from at s = reading 0 0 0 0 at s

abbrev pub decoding : List ℕ → Reading
decoding b = reading_from 0 b
