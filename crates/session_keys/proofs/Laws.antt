-- Laws of the keys of a session: a name by its bytes, and a name that is none of the table's. Long by its keys. Assumes nothing.
use Rattle.lists.proofs.Kit.{◌≡◌, refl, ap, sym, ◌∙◌, List, [], ◌∷◌, ◌++◌, Bool, true, false, ℕ, arith, length, get_or}
use Rattle.lists.specs.Codes.{codes}
use Rattle.lists.specs.Lists.{is_same}
use Rattle.lists.proofs.Same.{same_long, same_true}
use Rattle.session_keys.specs.declared.Key.TheVariants as Key
use Rattle.session_keys.specs.Keys.{two_bytes, word_keys, line_keys, place_keys, found, key_of}

-- the key of a name of one byte, and of two
pub key_of_one : (s : List ℕ) (x : ℕ) → length s ≡ 1 → get_or s 0 0 ≡ x → key_of (x ∷ []) ≡ key_of s
key_of_one [] x h e = absurd (omega (arith, h))
key_of_one (a ∷ []) x h e = rw e
key_of_one (a ∷ b ∷ s) x h e = absurd (omega (arith, h))

pub key_of_two : (s : List ℕ) (x y : ℕ) → length s ≡ 2 → get_or s 0 0 ≡ x → get_or s 1 0 ≡ y → key_of (x ∷ y ∷ []) ≡ key_of s
key_of_two [] x y h e f = absurd (omega (arith, h))
key_of_two (a ∷ []) x y h e f = absurd (omega (arith, h))
key_of_two (a ∷ b ∷ []) x y h e f = rw (e, f)
key_of_two (a ∷ b ∷ d ∷ s) x y h e f = absurd (omega (arith, h))

-- no key is named like a name that is longer or shorter, or whose bytes are others
not_same : (s k : List ℕ) → (s ≡ k → ⊥) → is_same s k ≡ false
not_same s k n = go (is_same s k) refl
  where
    go : (t : Bool) → is_same s k ≡ t → is_same s k ≡ false
    go true p = absurd (n (same_true s k p))
    go false p = p

module _ (s : List ℕ) where
  not_byte : (x : ℕ) → (get_or s 0 0 ≡ x → ⊥) → is_same s (x ∷ []) ≡ false
  not_byte x n = not_same s (x ∷ []) (λ e. n (ap (λ (l : List ℕ). get_or l 0 0) e))

  not_bytes : (x y : ℕ) → (get_or s 0 0 ≡ x → get_or s 1 0 ≡ y → ⊥) → is_same s (x ∷ y ∷ []) ≡ false
  not_bytes x y n = not_same s (x ∷ y ∷ []) (λ e. n (ap (λ (l : List ℕ). get_or l 0 0) e) (ap (λ (l : List ℕ). get_or l 1 0) e))

  not_two : (length s ≡ 2 → ⊥) → key_of s ≡ found (word_keys ++ line_keys ++ place_keys) s
  unfolding two_bytes found codes
  not_two h =
      rw (
        same_long s (codes "ge") h,
        same_long s (codes "gE") h,
        same_long s (codes "g_") h,
        same_long s (codes "[[") h,
        same_long s (codes "]]") h,
        same_long s (codes "[]") h,
        same_long s (codes "][") h,
        same_long s (codes "gg") h,
      )

  not_one : (length s ≡ 1 → ⊥) → found (word_keys ++ line_keys ++ place_keys) s ≡ Key.Unknown
  unfolding word_keys line_keys place_keys found codes
  not_one h =
      rw (
        same_long s (codes "h") h,
        same_long s (codes "l") h,
        same_long s (codes "w") h,
        same_long s (codes "b") h,
        same_long s (codes "e") h,
        same_long s (codes "W") h,
        same_long s (codes "B") h,
        same_long s (codes "E") h,
        same_long s (codes "0") h,
        same_long s (codes "^") h,
        same_long s (codes "$") h,
        same_long s (codes "{") h,
        same_long s (codes "}") h,
        same_long s (codes "+") h,
        same_long s (codes "-") h,
        same_long s (codes "_") h,
        same_long s (codes "G") h,
        same_long s (codes "|") h,
        same_long s (codes "%") h,
        same_long s (codes "j") h,
        same_long s (codes "k") h,
      )

  pub unknown_length : (length s ≡ 1 → ⊥) → (length s ≡ 2 → ⊥) → Key.Unknown ≡ key_of s
  unknown_length one two = sym (not_two two ∙ not_one one)

  pub unknown_one : (length s ≡ 2 → ⊥)
      → (get_or s 0 0 ≡ 104 → ⊥) → (get_or s 0 0 ≡ 108 → ⊥) → (get_or s 0 0 ≡ 119 → ⊥) → (get_or s 0 0 ≡ 98 → ⊥) → (get_or s 0 0 ≡ 101 → ⊥) → (get_or s 0 0 ≡ 87 → ⊥) → (get_or s 0 0 ≡ 66 → ⊥) → (get_or s 0 0 ≡ 69 → ⊥) → (get_or s 0 0 ≡ 48 → ⊥) → (get_or s 0 0 ≡ 94 → ⊥) → (get_or s 0 0 ≡ 36 → ⊥) → (get_or s 0 0 ≡ 123 → ⊥) → (get_or s 0 0 ≡ 125 → ⊥) → (get_or s 0 0 ≡ 43 → ⊥) → (get_or s 0 0 ≡ 45 → ⊥) → (get_or s 0 0 ≡ 95 → ⊥) → (get_or s 0 0 ≡ 71 → ⊥) → (get_or s 0 0 ≡ 124 → ⊥) → (get_or s 0 0 ≡ 37 → ⊥) → (get_or s 0 0 ≡ 106 → ⊥) → (get_or s 0 0 ≡ 107 → ⊥)
      → Key.Unknown ≡ key_of s
  unfolding word_keys line_keys place_keys found codes
  unknown_one two n0 n1 n2 n3 n4 n5 n6 n7 n8 n9 n10 n11 n12 n13 n14 n15 n16 n17 n18 n19 n20 =
      rw (
        not_two two,
        not_byte 104 n0,
        not_byte 108 n1,
        not_byte 119 n2,
        not_byte 98 n3,
        not_byte 101 n4,
        not_byte 87 n5,
        not_byte 66 n6,
        not_byte 69 n7,
        not_byte 48 n8,
        not_byte 94 n9,
        not_byte 36 n10,
        not_byte 123 n11,
        not_byte 125 n12,
        not_byte 43 n13,
        not_byte 45 n14,
        not_byte 95 n15,
        not_byte 71 n16,
        not_byte 124 n17,
        not_byte 37 n18,
        not_byte 106 n19,
        not_byte 107 n20,
      )

  pub unknown_two : (length s ≡ 1 → ⊥)
      → (get_or s 0 0 ≡ 103 → get_or s 1 0 ≡ 101 → ⊥) → (get_or s 0 0 ≡ 103 → get_or s 1 0 ≡ 69 → ⊥) → (get_or s 0 0 ≡ 103 → get_or s 1 0 ≡ 95 → ⊥) → (get_or s 0 0 ≡ 91 → get_or s 1 0 ≡ 91 → ⊥) → (get_or s 0 0 ≡ 93 → get_or s 1 0 ≡ 93 → ⊥) → (get_or s 0 0 ≡ 91 → get_or s 1 0 ≡ 93 → ⊥) → (get_or s 0 0 ≡ 93 → get_or s 1 0 ≡ 91 → ⊥) → (get_or s 0 0 ≡ 103 → get_or s 1 0 ≡ 103 → ⊥)
      → Key.Unknown ≡ key_of s
  unfolding two_bytes found codes
  unknown_two one n0 n1 n2 n3 n4 n5 n6 n7 =
      rw (
        not_bytes 103 101 n0,
        not_bytes 103 69 n1,
        not_bytes 103 95 n2,
        not_bytes 91 91 n3,
        not_bytes 93 93 n4,
        not_bytes 91 93 n5,
        not_bytes 93 91 n6,
        not_bytes 103 103 n7,
      ) (sym (not_one one))
