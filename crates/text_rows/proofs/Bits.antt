-- All bits of a text together are at least what each value is. Assumes nothing.
use Rattle.lists.proofs.Kit.{◌≡◌, refl, ◌∙◌, List, [], ◌∷◌, Bool, true, false, ◌||◌, true≢false, ℕ, ◌+◌, ◌≤◌, ◌<◌, arith, length, get_or, drop, drop_of_length-le}
use Rattle.lists.proofs.Kit.{leb, leb-false, lt-leb}
use lib.Bits.{bit_or, or_add_and, and_le_l, and_le_r}
use Rattle.lists.specs.Lists.{any}
use Rattle.lists.proofs.Lists.{drop_at}
use Rattle.text_check.specs.Accept.{is_high}
use Rattle.text_rows.specs.Pass.{all_bits}

above : (n bits : ℕ) (t : List ℕ) → all_bits bits t < n → (bits < n) × (any (leb n) t ≡ false)
unfolding all_bits any
above n bits [] h = (h, refl)
above n bits (x ∷ t) h =
    let later = above n (bit_or bits x) t h in
    let sum = or_add_and bits x in
    (omega (arith, sum, and_le_r bits x, later.0), rw (lt-leb n x (omega (arith, sum, and_le_l bits x, later.0)), later.1))

none_higher : (t : List ℕ) → any (leb 0x2000) t ≡ false → any is_high t ≡ false
unfolding any
none_higher [] e = refl
none_higher (x ∷ t) e = go (leb 0x2000 x) refl e (none_higher t)
  where
    go : (b : Bool) → leb 0x2000 x ≡ b → (b || any (leb 0x2000) t) ≡ false → (any (leb 0x2000) t ≡ false → any is_high t ≡ false) →
        (leb 0x2028 x || any is_high t) ≡ false
    go true q f ih = absurd (true≢false f)
    go false q f ih = rw (lt-leb 0x2028 x (omega (arith, leb-false 0x2000 x q)), ih f)

-- where they are below U+2000, no value is high
pub bits_low : (t : List ℕ) → leb 0x2000 (all_bits 0 t) ≡ false → any is_high t ≡ false
bits_low t e = none_higher t (above 0x2000 0 t (leb-false 0x2000 (all_bits 0 t) e)).1

-- of a loop that has so many bits so far
module _ (t : List ℕ) (i bits : ℕ) where
  pub bits_on : i < length t → all_bits 0 t ≡ all_bits bits (drop i t) → all_bits 0 t ≡ all_bits (bit_or bits (get_or t i 0)) (drop (i + 1) t)
  unfolding all_bits
  bits_on h e = e ∙ rw (drop_at t i h)

  pub bits_end : length t ≤ i → all_bits 0 t ≡ all_bits bits (drop i t) → all_bits 0 t ≡ bits
  unfolding all_bits
  bits_end h e = e ∙ rw (drop_of_length-le t h)
