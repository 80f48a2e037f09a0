-- What was encoded is read, code point by code point. Assumes nothing.
use Rattle.lists.proofs.Kit.{◌≡◌, refl, ap, ◌∙◌, List, [], ◌∷◌, ◌++◌, Bool, true, false, not, ◌||◌, ℕ, ◌+◌, ◌*◌, ◌-◌, ◌/◌, ◌%◌, ◌≤◌, ◌<◌, dec_lt, ℕ_discrete}
use Rattle.lists.proofs.Kit.{arith, length}
use Rattle.chars.specs.Scalar.{is_scalar, not_scalar}
use Rattle.lists.specs.Lists.{any}
use Rattle.utf8.specs.Encoding.{encoding, utf8}
use Rattle.utf8.specs.Decoding.{text, onto, low_of, high_of, bits_of, reading, reading_from}
use Rattle.utf8.proofs.Encodings.{scalar_most, scalar_above, encoding_one, encoding_two, encoding_three, encoding_four}
use Rattle.utf8.proofs.Leads.{lead_one, lead_two, lead_three, lead_four, low_e0, low_f0, low_else, high_ed, high_f4, high_else}
use Rattle.utf8.proofs.Readings.{read_one, read_two, read_three, read_four}

-- the second byte of three stands between the bounds of the first, and so does that of four
module _ (a b : ℕ) (least : 0x80 ≤ b) (most : b ≤ 0xbf) where
  above_low : (a ≡ 0xe0 → 0xa0 ≤ b) → (a ≡ 0xf0 → 0x90 ≤ b) → low_of a ≤ b
  above_low e0 f0 = go (ℕ_discrete a 0xe0) (ℕ_discrete a 0xf0)
    where
      go : Dec (a ≡ 0xe0) → Dec (a ≡ 0xf0) → low_of a ≤ b
      go (yes e) f = omega (arith, low_e0 a e, e0 e)
      go (no e) (yes f) = omega (arith, low_f0 a f, f0 f)
      go (no e) (no f) = omega (arith, low_else a e f)

  below_high : (a ≡ 0xed → b ≤ 0x9f) → (a ≡ 0xf4 → b ≤ 0x8f) → b ≤ high_of a
  below_high ed f4 = go (ℕ_discrete a 0xed) (ℕ_discrete a 0xf4)
    where
      go : Dec (a ≡ 0xed) → Dec (a ≡ 0xf4) → b ≤ high_of a
      go (yes e) f = omega (arith, high_ed a e, ed e)
      go (no e) (yes f) = omega (arith, high_f4 a f, f4 f)
      go (no e) (no f) = omega (arith, high_else a e f)

-- one code point, by the length of its encoding
module _ (x at : ℕ) (s : List ℕ) where
  read_from_lem : (n m : ℕ) → n ≡ m → onto x (reading_from n s) ≡ onto x (reading_from m s)
  read_from_lem n m e = ap (λ (i : ℕ). onto x (reading_from i s)) e

  on_two : 0x80 ≤ x → x < 0x800 → reading_from at (encoding x ++ s) ≡ onto x (reading_from (at + length (encoding x)) s)
  on_two h k =
      let lead_byte = 0xc0 + x / 64 in
      let second_byte = 0x80 + x % 64 in
      let by_lead_two = lead_two lead_byte (omega arith) (omega arith) in
      let lo = above_low lead_byte second_byte (omega arith) (omega arith) (λ e. absurd (omega arith)) (λ e. absurd (omega arith)) in
      let hi = below_high lead_byte second_byte (omega arith) (omega arith) (λ e. absurd (omega arith)) (λ e. absurd (omega arith)) in
      rw (encoding_two x lead_byte second_byte h k refl refl)
      (read_two at lead_byte x s by_lead_two.0 second_byte by_lead_two.1 lo hi (omega (arith, by_lead_two.2))
      ∙ read_from_lem (at + 1 + 1) (at + 2) (omega arith))

  on_three : 0x800 ≤ x → x < 0x10000 → (0xd800 ≤ x → 0xdfff < x) → reading_from at (encoding x ++ s) ≡ onto x (reading_from (at + length (encoding x)) s)
  on_three h k scalar =
      let lead_byte = 0xe0 + x / 4096 in
      let second_byte = 0x80 + x / 64 % 64 in
      let third_byte = 0x80 + x % 64 in
      let by_lead_three = lead_three lead_byte (omega arith) (omega arith) in
      let lo = above_low lead_byte second_byte (omega arith) (omega arith) (λ e. omega arith) (λ e. absurd (omega arith)) in
      let hi = below_high lead_byte second_byte (omega arith) (omega arith) (λ e. low_surrogate e) (λ e. absurd (omega arith)) in
      rw (encoding_three x lead_byte second_byte third_byte h k refl refl refl)
      (read_three at lead_byte x s by_lead_three.0 second_byte third_byte by_lead_three.1 lo hi (omega arith) (omega arith)
      (omega (arith, by_lead_three.2)) ∙ read_from_lem (at + 1 + 1 + 1) (at + 3) (omega arith))
    where
      low_surrogate : 0xe0 + x / 4096 ≡ 0xed → 0x80 + x / 64 % 64 ≤ 0x9f
      low_surrogate e = go (dec_lt x 0xd800)
        where
          go : Dec (x < 0xd800) → 0x80 + x / 64 % 64 ≤ 0x9f
          go (yes l) = omega arith
          go (no l) = absurd (omega (arith, scalar (omega arith)))

  on_four : 0x10000 ≤ x → x ≤ 0x10ffff → reading_from at (encoding x ++ s) ≡ onto x (reading_from (at + length (encoding x)) s)
  on_four h k =
      let lead_byte = 0xf0 + x / 262144 in
      let second_byte = 0x80 + x / 4096 % 64 in
      let third_byte = 0x80 + x / 64 % 64 in
      let fourth_byte = 0x80 + x % 64 in
      let by_lead_four = lead_four lead_byte (omega arith) (omega arith) in
      let lo = above_low lead_byte second_byte (omega arith) (omega arith) (λ e. absurd (omega arith)) (λ e. omega arith) in
      let hi = below_high lead_byte second_byte (omega arith) (omega arith) (λ e. absurd (omega arith)) (λ e. omega arith) in
      let quotient_is : x / 4096 ≡ x / 262144 * 64 + x / 4096 % 64 = omega arith in
      let sum_is : x / 64 ≡ x / 4096 * 64 + x / 64 % 64 = omega arith in
      let value : ((bits_of lead_byte * 64 + (second_byte - 0x80)) * 64 + (third_byte - 0x80)) * 64 + (fourth_byte - 0x80) ≡ x = omega (
        arith,
        by_lead_four.2,
      ) in
      rw (encoding_four x lead_byte second_byte third_byte fourth_byte h refl refl refl refl)
      (read_four at lead_byte x s by_lead_four.0 second_byte third_byte fourth_byte by_lead_four.1 lo hi (omega arith) (omega arith)
      (omega arith) (omega arith) value ∙ read_from_lem (at + 1 + 1 + 1 + 1) (at + 4) (omega arith))

  pub encoded_on : is_scalar x ≡ true → reading_from at (encoding x ++ s) ≡ onto x (reading_from (at + length (encoding x)) s)
  encoded_on is = go (dec_lt x 0x80) (dec_lt x 0x800) (dec_lt x 0x10000)
    where
      go : Dec (x < 0x80) → Dec (x < 0x800) → Dec (x < 0x10000) → reading_from at (encoding x ++ s) ≡ onto x (reading_from (at + length (encoding x)) s)
      go (yes h) k l = let by_lead_one = lead_one x h in rw (encoding_one x h) (read_one at x x s by_lead_one.0 by_lead_one.1 by_lead_one.2)
      go (no h) (yes k) l = on_two (omega arith) k
      go (no h) (no k) (yes l) = on_three (omega arith) l (scalar_above x is)
      go (no h) (no k) (no l) = on_four (omega arith) (scalar_most x is)

-- a text
pub encoded_reads : (t : List ℕ) (at : ℕ) → any not_scalar t ≡ false → reading_from at (utf8 t) ≡ text t
unfolding any utf8 onto reading
encoded_reads [] at e = refl
encoded_reads (x ∷ t) at e = go (is_scalar x) refl e (λ h. encoded_reads t (at + length (encoding x)) h)
  where
    go : (b : Bool) → is_scalar x ≡ b → (not b || any not_scalar t) ≡ false →
        (any not_scalar t ≡ false → reading_from (at + length (encoding x)) (utf8 t) ≡ text t) → reading_from at (encoding x ++ utf8 t) ≡ text (x ∷ t)
    go true p q ih = encoded_on x at (utf8 t) p ∙ rw (ih q)
    go false p q ih = let never : ◌≡◌ {A = ℕ} 0 1 = cc in absurd (omega arith)
