-- What word motions go by, made once for a text and a keyword list. Definitions only. Assumes nothing.
use Rattle.std.specs.Prelude.{ℕ, ◌+◌, ◌≤◌, ◌≡◌, List, Bool, false, ◌||◌, ltb, length}
use Rattle.lists.specs.Lists.{any}
use Rattle.word_kinds.specs.Places.{kind_of}
use Rattle.word_kinds.specs.Lent.{kind_by, is_high}
use Rattle.words.specs.declared.Prepared.{Prepared}

-- a text that is long, or has a code point for which the ranges of the letters are read
unfoldable pub needs_letters : List ℕ → Bool
needs_letters t = ltb 8192 (length t) || any is_high t

-- the kinds by the bounds are those by `word`, which is what the list holds, the numbers those handed in, and where `high` is false the text does not need
-- the ranges of the letters
pub record Prepares (t : List ℕ) (word : ℕ → Bool) (big : Bool) (rows content : ℕ) (r : Prepared) : Type 0 where
  pub kinds : kind_by r.bounds r.setting ≡ kind_of word big
  pub room : r.setting.pairs + r.setting.pairs ≤ length r.bounds
  pub is_big : r.setting.big ≡ big
  pub all_rows : r.setting.rows ≡ rows
  pub content_rows : r.setting.content ≡ content
  pub none_high : r.high ≡ false → any is_high t ≡ false
