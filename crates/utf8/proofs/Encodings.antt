-- The encoding of a scalar value: its bytes, by how many there are; and what a scalar value is. Assumes nothing.
use Rattle.lists.proofs.Kit.{◌≡◌, refl, ap, [], ◌∷◌, Bool, true, false, ◌&&◌, ◌||◌, ℕ, ◌+◌, ◌/◌, ◌%◌, ◌≤◌, ◌<◌, dec_lt, arith, length, leb, ltb, lt-ltb, le-ltb}
use Rattle.lists.proofs.Kit.{le-leb, ltb-true, leb-true}
use Rattle.chars.specs.Scalar.{is_scalar}
use Rattle.utf8.specs.Encoding.{encoding}

-- below the surrogates, and above them
pub scalar_low : (x : ℕ) → x < 0xd800 → is_scalar x ≡ true
scalar_low x h = rw (le-leb x 0x10ffff (omega arith), lt-ltb x 0xd800 h)

pub scalar_high : (x : ℕ) → 0xdfff < x → x ≤ 0x10ffff → is_scalar x ≡ true
scalar_high x h k = rw (le-leb x 0x10ffff k, le-ltb x 0xd800 (omega arith), lt-ltb 0xdfff x h)

-- a scalar value is not too large, and no surrogate
pub scalar_most : (x : ℕ) → is_scalar x ≡ true → x ≤ 0x10ffff
scalar_most x e = go (leb x 0x10ffff) refl e
  where
    go : (b : Bool) → leb x 0x10ffff ≡ b → (b && (ltb x 0xd800 || ltb 0xdfff x)) ≡ true → x ≤ 0x10ffff
    go true p q = leb-true x 0x10ffff p
    go false p q = let never : ◌≡◌ {A = ℕ} 0 1 = cc in absurd (omega arith)

pub scalar_above : (x : ℕ) → is_scalar x ≡ true → 0xd800 ≤ x → 0xdfff < x
scalar_above x e h = go (leb x 0x10ffff) (ltb x 0xd800) (ltb 0xdfff x) refl refl e
  where
    go : (b c d : Bool) → ltb x 0xd800 ≡ c → ltb 0xdfff x ≡ d → (b && (c || d)) ≡ true → 0xdfff < x
    go b true d p q r = absurd (omega (arith, ltb-true x 0xd800 p))
    go b false true p q r = ltb-true 0xdfff x q
    go true false false p q r = let never : ◌≡◌ {A = ℕ} 0 1 = cc in absurd (omega arith)
    go false false false p q r = let never : ◌≡◌ {A = ℕ} 0 1 = cc in absurd (omega arith)

-- a value and its bytes
module _ (x : ℕ) where
  pub encoding_one : x < 0x80 → encoding x ≡ x ∷ []
  unfolding encoding
  encoding_one h = rw (lt-ltb x 0x80 h)

  pub encoding_two : (a b : ℕ) → 0x80 ≤ x → x < 0x800 → 0xc0 + x / 64 ≡ a → 0x80 + x % 64 ≡ b → encoding x ≡ a ∷ b ∷ []
  unfolding encoding
  encoding_two a b h k ea eb = rw (le-ltb x 0x80 h, lt-ltb x 0x800 k, ea, eb)

  pub encoding_three : (a b c : ℕ) → 0x800 ≤ x → x < 0x10000 → 0xe0 + x / 4096 ≡ a → 0x80 + x / 64 % 64 ≡ b → 0x80 + x % 64 ≡ c → encoding x ≡ a ∷ b ∷ c ∷ []
  unfolding encoding
  encoding_three a b c h k ea eb ec = rw (le-ltb x 0x80 (omega arith), le-ltb x 0x800 h, lt-ltb x 0x10000 k, ea, eb, ec)

  pub encoding_four : (a b c d : ℕ) → 0x10000 ≤ x → 0xf0 + x / 262144 ≡ a → 0x80 + x / 4096 % 64 ≡ b → 0x80 + x / 64 % 64 ≡ c → 0x80 + x % 64 ≡ d →
      encoding x ≡ a ∷ b ∷ c ∷ d ∷ []
  unfolding encoding
  encoding_four a b c d h ea eb ec ed = rw (le-ltb x 0x80 (omega arith), le-ltb x 0x800 (omega arith), le-ltb x 0x10000 h, ea, eb, ec, ed)

-- how many bytes it has
module _ (x : ℕ) where
  pub size_one : x < 0x80 → length (encoding x) ≡ 1
  size_one h = ap length (encoding_one x h)

  pub size_two : 0x80 ≤ x → x < 0x800 → length (encoding x) ≡ 2
  size_two h k = ap length (encoding_two x _ _ h k refl refl)

  pub size_three : 0x800 ≤ x → x < 0x10000 → length (encoding x) ≡ 3
  size_three h k = ap length (encoding_three x _ _ _ h k refl refl refl)

  pub size_four : 0x10000 ≤ x → length (encoding x) ≡ 4
  size_four h = ap length (encoding_four x _ _ _ _ h refl refl refl refl)

  pub size_most : length (encoding x) ≤ 4
  size_most = go (dec_lt x 0x80) (dec_lt x 0x800) (dec_lt x 0x10000)
    where
      go : Dec (x < 0x80) → Dec (x < 0x800) → Dec (x < 0x10000) → length (encoding x) ≤ 4
      go (yes h) k l = omega (arith, size_one h)
      go (no h) (yes k) l = omega (arith, size_two (omega arith) k)
      go (no h) (no k) (yes l) = omega (arith, size_three (omega arith) l)
      go (no h) (no k) (no l) = omega (arith, size_four (omega arith))
