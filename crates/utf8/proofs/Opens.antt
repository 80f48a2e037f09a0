-- What a sequence that has begun goes on to: with any bytes that can follow it is the encoding of the value that they hold. Assumes nothing.
use Rattle.lists.proofs.Kit.{◌≡◌, List, [], ◌∷◌, ◌++◌, true, ℕ, zero, suc, ◌+◌, ◌*◌, ◌-◌, ◌≤◌, ◌<◌, dec_lt, arith}
use Rattle.chars.specs.Scalar.{is_scalar}
use Rattle.utf8.specs.Encoding.{encoding}
use Rattle.utf8.specs.Decoding.{is_lead, tails_of, low_of, high_of, bits_of}
use Rattle.utf8.proofs.Encodings.{scalar_low, scalar_high, encoding_one, encoding_two, encoding_three, encoding_four}
use Rattle.utf8.proofs.Leads.{lead_one, lead_two, lead_three, lead_four, lead_not_low, lead_not_high, low_e0, low_f0, high_ed, high_f4, low_least}
use Rattle.utf8.proofs.Leads.{high_most}

-- p begins a sequence of which so many bytes are left, the next of them from low to high
unfoldable pub Opens : List ℕ → ℕ → ℕ → ℕ → ℕ → Type 0
Opens p zero low high value = (is_scalar value ≡ true) × (encoding value ≡ p)
Opens p (suc left) low high value = (c : ℕ) → low ≤ c → c ≤ high → Opens (p ++ (c ∷ [])) left 0x80 0xbf (value * 64 + (c - 0x80))

-- the value of three bytes, and of four: no shorter sequence has it, and it is no surrogate and not too large
module _ (a c d : ℕ) (least : 0x80 ≤ c) (most : c ≤ 0xbf) (from : 0x80 ≤ d) (to : d ≤ 0xbf) where
  three_least : 0xe0 ≤ a → (a ≡ 0xe0 → 0xa0 ≤ c) → 0x800 ≤ ((a - 0xe0) * 64 + (c - 0x80)) * 64 + (d - 0x80)
  three_least h low = go (dec_lt 0xe0 a)
    where
      go : Dec (0xe0 < a) → 0x800 ≤ ((a - 0xe0) * 64 + (c - 0x80)) * 64 + (d - 0x80)
      go (yes k) = omega arith
      go (no k) = omega (arith, low (omega arith))

  three_scalar : a < 0xf0 → (a ≡ 0xed → c ≤ 0x9f) → is_scalar (((a - 0xe0) * 64 + (c - 0x80)) * 64 + (d - 0x80)) ≡ true
  three_scalar h high = go (dec_lt a 0xed) (dec_lt 0xed a)
    where
      go : Dec (a < 0xed) → Dec (0xed < a) → is_scalar (((a - 0xe0) * 64 + (c - 0x80)) * 64 + (d - 0x80)) ≡ true
      go (yes k) e = scalar_low (((a - 0xe0) * 64 + (c - 0x80)) * 64 + (d - 0x80)) (omega arith)
      go (no k) (yes l) = scalar_high (((a - 0xe0) * 64 + (c - 0x80)) * 64 + (d - 0x80)) (omega arith) (omega arith)
      go (no k) (no l) = scalar_low (((a - 0xe0) * 64 + (c - 0x80)) * 64 + (d - 0x80)) (omega (arith, high (omega arith)))

  module _ (e : ℕ) (first : 0x80 ≤ e) (last : e ≤ 0xbf) where
    four_least : 0xf0 ≤ a → (a ≡ 0xf0 → 0x90 ≤ c) → 0x10000 ≤ (((a - 0xf0) * 64 + (c - 0x80)) * 64 + (d - 0x80)) * 64 + (e - 0x80)
    four_least h low = go (dec_lt 0xf0 a)
      where
        go : Dec (0xf0 < a) → 0x10000 ≤ (((a - 0xf0) * 64 + (c - 0x80)) * 64 + (d - 0x80)) * 64 + (e - 0x80)
        go (yes k) = omega arith
        go (no k) = omega (arith, low (omega arith))

    four_most : a ≤ 0xf4 → (a ≡ 0xf4 → c ≤ 0x8f) → (((a - 0xf0) * 64 + (c - 0x80)) * 64 + (d - 0x80)) * 64 + (e - 0x80) ≤ 0x10ffff
    four_most h high = go (dec_lt a 0xf4)
      where
        go : Dec (a < 0xf4) → (((a - 0xf0) * 64 + (c - 0x80)) * 64 + (d - 0x80)) * 64 + (e - 0x80) ≤ 0x10ffff
        go (yes k) = omega arith
        go (no k) = omega (arith, high (omega arith))

-- by the lead
module _ (a : ℕ) where
  opens_two : 0xc2 ≤ a → a < 0xe0 → Opens (a ∷ []) 1 (low_of a) (high_of a) (a - 0xc0)
  unfolding Opens
  opens_two h k c l m =
      let least : 0x80 ≤ c = omega (arith, low_least a) in
      let most : c ≤ 0xbf = omega (arith, high_most a) in
      let sum = (a - 0xc0) * 64 + (c - 0x80) in
      (scalar_low sum (omega arith), encoding_two sum a c (omega arith) (omega arith) (omega arith) (omega arith))

  opens_three : 0xe0 ≤ a → a < 0xf0 → Opens (a ∷ []) 2 (low_of a) (high_of a) (a - 0xe0)
  unfolding Opens
  opens_three h k c l m d n o =
      let least : 0x80 ≤ c = omega (arith, low_least a) in
      let most : c ≤ 0xbf = omega (arith, high_most a) in
      let sum = ((a - 0xe0) * 64 + (c - 0x80)) * 64 + (d - 0x80) in
      let by_three_least = three_least a c d least most n o h (λ e. omega (arith, low_e0 a e)) in (
        three_scalar a c d least most n o k (λ e. omega (arith, high_ed a e)),
        encoding_three sum a c d by_three_least (omega arith) (omega arith) (omega arith) (omega arith),
      )

  opens_four : 0xf0 ≤ a → a ≤ 0xf4 → Opens (a ∷ []) 3 (low_of a) (high_of a) (a - 0xf0)
  unfolding Opens
  opens_four h k c l m d n o e p q =
      let least : 0x80 ≤ c = omega (arith, low_least a) in
      let most : c ≤ 0xbf = omega (arith, high_most a) in
      let sum = (((a - 0xf0) * 64 + (c - 0x80)) * 64 + (d - 0x80)) * 64 + (e - 0x80) in
      let by_four_least = four_least a c d least most n o e p q h (λ w. omega (arith, low_f0 a w)) in (
        scalar_high sum (omega arith) (four_most a c d least most n o e p q k (λ w. omega (arith, high_f4 a w))),
        encoding_four sum a c d e by_four_least (omega arith) (omega arith) (omega arith) (omega arith),
      )

  pub lead_opens : is_lead a ≡ true → Opens (a ∷ []) (tails_of a) (low_of a) (high_of a) (bits_of a)
  unfolding Opens
  lead_opens is = go (dec_lt a 0x80) (dec_lt a 0xc2) (dec_lt a 0xe0) (dec_lt a 0xf0) (dec_lt 0xf4 a)
    where
      go : Dec (a < 0x80) → Dec (a < 0xc2) → Dec (a < 0xe0) → Dec (a < 0xf0) → Dec (0xf4 < a) → Opens (a ∷ []) (tails_of a) (low_of a) (high_of a) (bits_of a)
      go (yes h) b c d e = rw ((lead_one a h).1, (lead_one a h).2) (scalar_low a (omega arith), encoding_one a h)
      go (no h) (yes i) c d e = let by_lead_not_low = lead_not_low a (omega arith) i in let never : ◌≡◌ {A = ℕ} 0 1 = cc in absurd (omega arith)
      go (no h) (no i) (yes j) d e = let by_lead_two = lead_two a (omega arith) j in rw (by_lead_two.1, by_lead_two.2) (opens_two (omega arith) j)
      go (no h) (no i) (no j) (yes k) e = let by_lead_three = lead_three a (omega arith) k in
          rw (by_lead_three.1, by_lead_three.2) (opens_three (omega arith) k)
      go (no h) (no i) (no j) (no k) (yes l) = let by_lead_not_high = lead_not_high a l in let never : ◌≡◌ {A = ℕ} 0 1 = cc in absurd (omega arith)
      go (no h) (no i) (no j) (no k) (no l) = let by_lead_four = lead_four a (omega arith) (omega arith) in
          rw (by_lead_four.1, by_lead_four.2) (opens_four (omega arith) (omega arith))
