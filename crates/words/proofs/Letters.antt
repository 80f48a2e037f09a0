-- Code points for which the ranges of the letters are read: those before i looked at, and none in a text for which no ranges are lent. Assumes nothing.
use Rattle.lists.proofs.Kit.{◌≡◌, List, Bool, true, false, ◌||◌, true≢false, ℕ, ◌≤◌, length, drop, ltb}
use Rattle.lists.specs.Lists.{any}
use Rattle.word_kinds.specs.Lent.{is_high}
use Rattle.words.specs.Prepared.{needs_letters}

-- the loop that looks for one stands at i: it was found, or will be
pub record Looked (t : List ℕ) (high : Bool) (i : ℕ) : Type 0 where
  pub up_to : i ≤ length t
  pub either : any is_high t ≡ (high || any is_high (drop i t))

pub no_letters : (t : List ℕ) → needs_letters t ≡ false → any is_high t ≡ false
unfolding needs_letters
no_letters t e = go (ltb 8192 (length t)) (any is_high t) e
  where
    go : (long high : Bool) → (long || high) ≡ false → high ≡ false
    go true high e = absurd (true≢false e)
    go false high e = e
