-- The bytes that begin a sequence: what follows each, by the ranges of RFC 3629, section 4. Assumes nothing.
use Rattle.lists.proofs.Kit.{◌≡◌, refl, Bool, true, false, cond, ℕ, ◌-◌, ◌≤◌, ◌<◌, arith, eqb, lt-ltb, le-ltb, le-leb, lt-leb, eq-eqb, ne_eqb, eqb-true}
use Rattle.utf8.specs.Decoding.{is_lead, tails_of, low_of, high_of, bits_of}

module _ (a : ℕ) where
  -- of one byte
  pub lead_one : a < 0x80 → (is_lead a ≡ true) × (tails_of a ≡ 0) × (bits_of a ≡ a)
  unfolding is_lead tails_of bits_of
  lead_one h = (rw (lt-ltb a 0x80 h), rw (lt-ltb a 0x80 h), rw (lt-ltb a 0x80 h))

  -- of two, three and four
  pub lead_two : 0xc2 ≤ a → a < 0xe0 → (is_lead a ≡ true) × (tails_of a ≡ 1) × (bits_of a ≡ a - 0xc0)
  unfolding is_lead tails_of bits_of
  lead_two h k = (
    rw (le-ltb a 0x80 (omega arith), le-leb 0xc2 a h, le-leb a 0xf4 (omega arith)),
    rw (le-ltb a 0x80 (omega arith), lt-ltb a 0xe0 k),
    rw (le-ltb a 0x80 (omega arith), lt-ltb a 0xe0 k),
  )

  pub lead_three : 0xe0 ≤ a → a < 0xf0 → (is_lead a ≡ true) × (tails_of a ≡ 2) × (bits_of a ≡ a - 0xe0)
  unfolding is_lead tails_of bits_of
  lead_three h k = (
    rw (le-ltb a 0x80 (omega arith), le-leb 0xc2 a (omega arith), le-leb a 0xf4 (omega arith)),
    rw (le-ltb a 0x80 (omega arith), le-ltb a 0xe0 h, lt-ltb a 0xf0 k),
    rw (le-ltb a 0x80 (omega arith), le-ltb a 0xe0 h, lt-ltb a 0xf0 k),
  )

  pub lead_four : 0xf0 ≤ a → a ≤ 0xf4 → (is_lead a ≡ true) × (tails_of a ≡ 3) × (bits_of a ≡ a - 0xf0)
  unfolding is_lead tails_of bits_of
  lead_four h k = (
    rw (le-ltb a 0x80 (omega arith), le-leb 0xc2 a (omega arith), le-leb a 0xf4 k),
    rw (le-ltb a 0x80 (omega arith), le-ltb a 0xe0 (omega arith), le-ltb a 0xf0 h),
    rw (le-ltb a 0x80 (omega arith), le-ltb a 0xe0 (omega arith), le-ltb a 0xf0 h),
  )

  -- no lead: 80..C1, F5 and above
  pub lead_not_low : 0x80 ≤ a → a < 0xc2 → is_lead a ≡ false
  unfolding is_lead
  lead_not_low h k = rw (le-ltb a 0x80 h, lt-leb 0xc2 a k)

  pub lead_not_high : 0xf4 < a → is_lead a ≡ false
  unfolding is_lead
  lead_not_high h = rw (le-ltb a 0x80 (omega arith), le-leb 0xc2 a (omega arith), lt-leb a 0xf4 h)

  -- the bounds of the second byte
  pub low_e0 : a ≡ 0xe0 → low_of a ≡ 0xa0
  unfolding low_of
  low_e0 e = rw (eq-eqb a 0xe0 e)

  pub low_f0 : a ≡ 0xf0 → low_of a ≡ 0x90
  unfolding low_of
  low_f0 e = rw (ne_eqb a 0xe0 (λ z. omega arith), eq-eqb a 0xf0 e)

  pub low_else : (a ≡ 0xe0 → ⊥) → (a ≡ 0xf0 → ⊥) → low_of a ≡ 0x80
  unfolding low_of
  low_else m n = rw (ne_eqb a 0xe0 m, ne_eqb a 0xf0 n)

  pub high_ed : a ≡ 0xed → high_of a ≡ 0x9f
  unfolding high_of
  high_ed e = rw (eq-eqb a 0xed e)

  pub high_f4 : a ≡ 0xf4 → high_of a ≡ 0x8f
  unfolding high_of
  high_f4 e = rw (ne_eqb a 0xed (λ z. omega arith), eq-eqb a 0xf4 e)

  pub high_else : (a ≡ 0xed → ⊥) → (a ≡ 0xf4 → ⊥) → high_of a ≡ 0xbf
  unfolding high_of
  high_else m n = rw (ne_eqb a 0xed m, ne_eqb a 0xf4 n)

  pub low_least : 0x80 ≤ low_of a
  unfolding low_of
  low_least = go (eqb a 0xe0) (eqb a 0xf0)
    where
      go : (b c : Bool) → 0x80 ≤ cond b 0xa0 (cond c 0x90 0x80)
      go true c = omega arith
      go false true = omega arith
      go false false = omega arith

  pub high_most : high_of a ≤ 0xbf
  unfolding high_of
  high_most = go (eqb a 0xed) (eqb a 0xf4)
    where
      go : (b c : Bool) → cond b 0x9f (cond c 0x8f 0xbf) ≤ 0xbf
      go true c = omega arith
      go false true = omega arith
      go false false = omega arith

  -- there is always a byte that can follow
  pub low_high : low_of a ≤ high_of a
  unfolding low_of high_of
  low_high = go (eqb a 0xe0) (eqb a 0xf0) (eqb a 0xed) (eqb a 0xf4) refl refl refl refl
    where
      go : (b c d e : Bool) → eqb a 0xe0 ≡ b → eqb a 0xf0 ≡ c → eqb a 0xed ≡ d → eqb a 0xf4 ≡ e →
          cond b 0xa0 (cond c 0x90 0x80) ≤ cond d 0x9f (cond e 0x8f 0xbf)
      go true c true e p q r s = absurd (omega (arith, eqb-true a 0xe0 p, eqb-true a 0xed r))
      go true c false true p q r s = absurd (omega (arith, eqb-true a 0xe0 p, eqb-true a 0xf4 s))
      go true c false false p q r s = omega arith
      go false true true e p q r s = omega arith
      go false true false true p q r s = absurd (omega (arith, eqb-true a 0xf0 q, eqb-true a 0xf4 s))
      go false true false false p q r s = omega arith
      go false false true e p q r s = omega arith
      go false false false true p q r s = omega arith
      go false false false false p q r s = omega arith
