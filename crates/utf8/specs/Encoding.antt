-- UTF-8 by the table of RFC 3629, section 3, on scalar values; and which byte strings are accepted: those that are the encoding of a text.
-- Definitions only; the laws are in `proofs/`. Assumes nothing.
use Rattle.std.specs.Prelude.{ℕ, ◌+◌, ◌/◌, ◌%◌, ◌≡◌, List, [], ◌∷◌, ◌++◌, Bool, false, cond, ltb}
use Rattle.lists.specs.Lists.{any}
use Rattle.chars.specs.Scalar.{not_scalar}

-- a byte 10xxxxxx with the lowest six bits of x
abbrev pub tail : ℕ → ℕ
tail x = 0x80 + x % 64

-- the bytes of a scalar value: 0xxxxxxx; 110xxxxx and a tail; 1110xxxx and two; 11110xxx and three
unfoldable pub encoding : ℕ → List ℕ
encoding x =
    cond (ltb x 0x80) (x ∷ [])
    (cond (ltb x 0x800) ((0xc0 + x / 64) ∷ tail x ∷ [])
    (cond (ltb x 0x10000) ((0xe0 + x / 4096) ∷ tail (x / 64) ∷ tail x ∷ [])
    ((0xf0 + x / 262144) ∷ tail (x / 4096) ∷ tail (x / 64) ∷ tail x ∷ [])))

-- the bytes of a text, one code point after the other
unfoldable pub utf8 : List ℕ → List ℕ
utf8 [] = []
utf8 (x ∷ t) = encoding x ++ utf8 t

-- above ASCII, whose strings are their own encodings (`utf8_ascii` of `proofs/Ascii.antt`)
abbrev pub is_above : ℕ → Bool
is_above b = ltb 0x7f b

-- b is UTF-8: the encoding of a text of scalar values
pub record Accepted (b : List ℕ) : Type 0 where
  pub text : List ℕ
  pub scalar : any not_scalar text ≡ false
  pub same : utf8 text ≡ b
