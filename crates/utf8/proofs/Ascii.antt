-- ASCII: a string of it is its own encoding, and is read byte by byte. Assumes nothing.
use Rattle.lists.proofs.Kit.{◌≡◌, refl, List, [], ◌∷◌, Bool, true, false, ◌||◌, ℕ, suc, ◌+◌, ◌-◌, ◌≤◌, ◌<◌, arith, length, get_or, take, drop, ltb, ltb-false}
use Rattle.lists.specs.Lists.{any}
use Rattle.lists.proofs.Lists.{drop_at}
use Rattle.utf8.specs.Encoding.{utf8, is_above}
use Rattle.utf8.specs.Decoding.{onto, reading_from}
use Rattle.utf8.proofs.Encodings.{encoding_one}
use Rattle.utf8.proofs.Leads.{lead_one}
use Rattle.utf8.proofs.Readings.{read_one}

pub read_ascii : (at a : ℕ) (s : List ℕ) → a < 0x80 → reading_from at (a ∷ s) ≡ onto a (reading_from (at + 1) s)
read_ascii at a s h = let by_lead_one = lead_one a h in read_one at a a s by_lead_one.0 by_lead_one.1 by_lead_one.2

-- the first of a plain string, and the others
pub plain_first : (a : ℕ) (s : List ℕ) → any is_above (a ∷ s) ≡ false → (a < 0x80) × (any is_above s ≡ false)
unfolding any
plain_first a s e = go (ltb 0x7f a) refl e
  where
    go : (b : Bool) → ltb 0x7f a ≡ b → (b || any is_above s) ≡ false → (a < 0x80) × (any is_above s ≡ false)
    go true p q = let never : ◌≡◌ {A = ℕ} 0 1 = cc in absurd (omega arith)
    go false p q = (omega (arith, ltb-false 0x7f a p), q)

pub utf8_ascii : (s : List ℕ) → any is_above s ≡ false → utf8 s ≡ s
unfolding utf8
utf8_ascii [] e = refl
utf8_ascii (a ∷ s) e = let by_plain_first = plain_first a s e in rw (encoding_one a by_plain_first.0, utf8_ascii s by_plain_first.1)

-- the first byte of a stretch of ASCII, and the others
pub plain_on : (b : List ℕ) (at until : ℕ) → at < until → until ≤ length b → any is_above (take (until - at) (drop at b)) ≡ false →
    (get_or b at 0 < 0x80) × (any is_above (take (until - (at + 1)) (drop (at + 1) b)) ≡ false)
plain_on b at until h k e =
    let difference_is : until - at ≡ suc (until - (at + 1)) = omega arith in
    plain_first (get_or b at 0) (take (until - (at + 1)) (drop (at + 1) b)) (rw (difference_is, drop_at b at (omega arith)) at e)
