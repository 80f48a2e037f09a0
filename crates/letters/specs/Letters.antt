-- What the contracts of `src/lib.rt` cite: the property Alphabetic, by the generated table of its bounds, and its ranges as they are lent.
-- Document 01, "Character facts". Definitions only. Assumes nothing.
use Rattle.std.specs.Prelude.{ℕ, ◌<◌, ◌≡◌, Bool, false, ◌&&◌, List, leb, ltb}
use Rattle.ranges.specs.Ranges.{in_table}
use Rattle.ranges.specs.Lengths.{starts_of, lengths_of}
unfoldable pub use Rattle.letters.specs.LetterTable.{letters}

unfoldable pub is_letter : ℕ → Bool
is_letter x = in_table x letters

-- the signs between the plain letters and the accented ones
abbrev pub is_sign : ℕ → Bool
is_sign x = leb 0xaa x && ltb x 0xc0

-- a code point up to U+02C1 that is none of them
pub record Latin (x : ℕ) : Type 0 where
  pub low : x < 0x2c2
  pub no_sign : is_sign x ≡ false

-- what is lent is where the ranges start, and how many code points each has
pub record LetterRanges (starts lengths : List ℕ) : Type 0 where
  pub starts_are : starts ≡ starts_of letters
  pub lengths_are : lengths ≡ lengths_of letters
