-- The rule of the table, over the whole of it: its ranges ascend, no two overlap or touch, and none is empty. By starts and lengths it lists the
-- ranges of the definition. And what it holds below a bound is what its bounds before that one hold. Assumes nothing.
use Rattle.lists.proofs.Kit.{◌≡◌, refl, sym, ◌∙◌, [], ◌∷◌, true, false, ◌&&◌, ◌||◌, not, and-false, or-false, true≢false, ℕ, ◌+◌, ◌<◌, ℕ_discrete, dec_lt, arith}
use Rattle.lists.proofs.Kit.{drop, T, eqb, leb, ltb, eq-eqb, ne_eqb, le-leb, lt-leb, le-ltb, lt-ltb}
use Rattle.ranges.specs.Ranges.{in_table, ascending}
use Rattle.ranges.specs.Lengths.{bounds_of, starts_of, lengths_of, apart}
use Rattle.ranges.proofs.Bounds.{table_low}
use Rattle.ranges.proofs.Lengths.{apart_ascending}
use Rattle.letters.specs.Letters.{letters, is_letter, is_sign}

pub letters_apart : T (apart (starts_of letters) (lengths_of letters))
unfolding letters
letters_apart = tt

pub letters_listed : bounds_of (starts_of letters) (lengths_of letters) ≡ letters
unfolding letters
letters_listed = refl

pub letters_ascend : T (ascending letters)
letters_ascend = rw letters_listed at (apart_ascending (starts_of letters) (lengths_of letters) letters_apart)

-- a range of one code point, and two such gaps
single : (a x : ℕ) → (leb a x && ltb x (a + 1)) ≡ eqb x a
single a x = go (ℕ_discrete x a) (dec_lt x a)
  where
    go : Dec (x ≡ a) → Dec (x < a) → (leb a x && ltb x (a + 1)) ≡ eqb x a
    go (yes e) d = rw (eq-eqb x a e, le-leb a x (omega (arith, e)), lt-ltb x (a + 1) (omega (arith, e)))
    go (no n) (yes l) = rw (ne_eqb x a n, lt-leb a x l)
    go (no n) (no m) = rw (ne_eqb x a n, le-leb a x (omega (arith, m)), le-ltb x (a + 1) (omega (arith, n, m)))

gaps : (a b x : ℕ) → a < b → (ltb x a || ((leb (a + 1) x && ltb x b) || leb (b + 1) x)) ≡ (not (eqb x a) && not (eqb x b))
gaps a b x h = go (ℕ_discrete x a) (ℕ_discrete x b) (dec_lt x a) (dec_lt x b)
  where
    go : Dec (x ≡ a) → Dec (x ≡ b) → Dec (x < a) → Dec (x < b) → (ltb x a || ((leb (a + 1) x && ltb x b) || leb (b + 1) x)) ≡ (not (eqb x a) && not (eqb x b))
    go (yes e) q l m = rw (eq-eqb x a e, le-ltb x a (omega (arith, e)), lt-leb (a + 1) x (omega (arith, e)), lt-leb (b + 1) x (omega (arith, e, h)))
    go (no n) (yes e) l m =
        rw (
          ne_eqb x a n,
          eq-eqb x b e,
          le-ltb x a (omega (arith, e, h)),
          le-ltb x b (omega (arith, e)),
          and-false (leb (a + 1) x),
          lt-leb (b + 1) x (omega (arith, e)),
        )
    go (no n) (no k) (yes l) m = rw (ne_eqb x a n, ne_eqb x b k, lt-ltb x a l)
    go (no n) (no k) (no l) (yes m) = rw (ne_eqb x a n, ne_eqb x b k, le-ltb x a (omega (arith, l)), le-leb (a + 1) x (omega (arith, n, l)), lt-ltb x b m)
    go (no n) (no k) (no l) (no m) = rw (
      ne_eqb x a n,
      ne_eqb x b k,
      le-ltb x a (omega (arith, l)),
      le-ltb x b (omega (arith, m)),
      and-false (leb (a + 1) x),
      le-leb (b + 1) x (omega (arith, k, m)),
    )

module _ (x : ℕ) where
  -- up to U+02C1: the last bound begins the range that ends there
  letter_latin : x < 0x2c2 → is_letter x ≡ in_table x (65 ∷ 91 ∷ 97 ∷ 123 ∷ 0xaa ∷ 0xab ∷ 0xb5 ∷ 0xb6 ∷ 0xba ∷ 0xbb ∷ 0xc0 ∷ 0xd7 ∷ 0xd8 ∷ 0xf7 ∷ 0xf8 ∷ [])
  unfolding is_letter letters
  letter_latin h = table_low x (65 ∷ 91 ∷ 97 ∷ 123 ∷ 0xaa ∷ 0xab ∷ 0xb5 ∷ 0xb6 ∷ 0xba ∷ 0xbb ∷ 0xc0 ∷ 0xd7 ∷ 0xd8 ∷ 0xf7 ∷ 0xf8 ∷ []) 0x2c2 (drop 16 letters)
      letters refl letters_ascend h

  pub letter_sign : is_sign x ≡ true → is_letter x ≡ (eqb x 0xaa || (eqb x 0xb5 || eqb x 0xba))
  letter_sign e = go (dec_lt x 0xaa) (dec_lt x 0xc0)
    where
      go : Dec (x < 0xaa) → Dec (x < 0xc0) → is_letter x ≡ (eqb x 0xaa || (eqb x 0xb5 || eqb x 0xba))
      go (yes l) d = absurd (true≢false (sym e ∙ rw (lt-leb 0xaa x l)))
      go (no m) (no n) = absurd (true≢false (sym e ∙ rw (le-ltb x 0xc0 (omega (arith, n)), and-false (leb 0xaa x))))
      go (no m) (yes h) = letter_latin (omega (arith, h)) ∙ rw (
        le-ltb x 91 (omega (arith, m)),
        and-false (leb 65 x),
        le-ltb x 123 (omega (arith, m)),
        and-false (leb 97 x),
        single 0xaa x,
        single 0xb5 x,
        single 0xba x,
        lt-leb 0xc0 x h,
        lt-leb 0xd8 x (omega (arith, h)),
        lt-leb 0xf8 x (omega (arith, h)),
        or-false (eqb x 0xba),
      )

  pub letter_plain : x < 0x2c2 → is_sign x ≡ false →
      is_letter x ≡ (((leb 65 x && ltb x 91) || (leb 97 x && ltb x 123)) || (leb 0xc0 x && (not (eqb x 0xd7) && not (eqb x 0xf7))))
  letter_plain h e = go (dec_lt x 0xaa) (dec_lt x 0xc0)
    where
      go : Dec (x < 0xaa) → Dec (x < 0xc0) →
          is_letter x ≡ (((leb 65 x && ltb x 91) || (leb 97 x && ltb x 123)) || (leb 0xc0 x && (not (eqb x 0xd7) && not (eqb x 0xf7))))
      go (yes l) d = letter_latin h ∙ rw (
        lt-leb 0xaa x l,
        lt-leb 0xb5 x (omega (arith, l)),
        lt-leb 0xba x (omega (arith, l)),
        lt-leb 0xc0 x (omega (arith, l)),
        lt-leb 0xd8 x (omega (arith, l)),
        lt-leb 0xf8 x (omega (arith, l)),
        or-false (leb 97 x && ltb x 123),
        or-false ((leb 65 x && ltb x 91) || (leb 97 x && ltb x 123)),
      )
      go (no m) (yes l) = absurd (true≢false (sym (rw (le-leb 0xaa x (omega (arith, m)), lt-ltb x 0xc0 l)) ∙ e))
      go (no m) (no n) = letter_latin h ∙ rw (
        le-ltb x 91 (omega (arith, n)),
        and-false (leb 65 x),
        le-ltb x 123 (omega (arith, n)),
        and-false (leb 97 x),
        le-ltb x 0xab (omega (arith, n)),
        and-false (leb 0xaa x),
        le-ltb x 0xb6 (omega (arith, n)),
        and-false (leb 0xb5 x),
        le-ltb x 0xbb (omega (arith, n)),
        and-false (leb 0xba x),
        le-leb 0xc0 x (omega (arith, n)),
      ) (gaps 0xd7 0xf7 x (omega arith))
