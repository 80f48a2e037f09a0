-- The class test by bounds or flags and the ranges of the letters, all lent, and what it requires of them.
-- Definitions only. Assumes nothing.
use Rattle.std.specs.Prelude.{ℕ, ◌+◌, ◌≤◌, ◌≡◌, List, Bool, true, cond, not, ◌&&◌, eqb, ltb, leb, length, take, get_or}
use Rattle.word_kinds.specs.declared.Alphabet.{Alphabet}
use Rattle.letters.specs.Letters.{is_letter, LetterRanges}
use Rattle.lists.specs.Lists.{any}
use Rattle.keywords.specs.Flat.{flat_holds}
use Rattle.word_kinds.specs.Places.{kind_of}
use Rattle.word_kinds.specs.declared.Setting.{Setting}

-- the words by a flag for each code up to 255; above it the letters, or nothing
unfoldable pub flagged : List ℕ → Bool → ℕ → Bool
flagged flags letters x = cond (ltb x 256) (not (eqb (get_or flags x 0) 0)) (letters && is_letter x)

-- the words by what is lent, flags or pairs of bounds, and the kinds
abbrev pub word_by : List ℕ → Setting → ℕ → Bool
word_by bounds s x = cond s.flags (flagged bounds s.letters x) (flat_holds (take (s.pairs + s.pairs) bounds) s.letters x)

abbrev pub kind_by : List ℕ → Setting → ℕ → ℕ
kind_by bounds s = kind_of (word_by bounds s) s.big

-- the same by what is lent, as a whole
abbrev pub words_by : Alphabet → ℕ → Bool
words_by k = word_by k.bounds.now k.setting

abbrev pub kinds_by : Alphabet → ℕ → ℕ
kinds_by k = kind_by k.bounds.now k.setting

-- a code point for which the ranges of the letters are read
abbrev pub is_high : ℕ → Bool
is_high x = leb 0x2c2 x

-- what the class test requires of the bounds and the ranges that are lent to it: the ranges count for high code points alone
pub record Lends (k : Alphabet) (x : ℕ) : Type 0 where
  pub room : k.setting.pairs + k.setting.pairs ≤ length k.bounds.now
  pub lent : is_high x ≡ true → LetterRanges k.starts.now k.lengths.now

-- and over a whole text
pub record Bounds (t : List ℕ) (k : Alphabet) : Type 0 where
  pub room : k.setting.pairs + k.setting.pairs ≤ length k.bounds.now
  pub lent : any is_high t ≡ true → LetterRanges k.starts.now k.lengths.now
