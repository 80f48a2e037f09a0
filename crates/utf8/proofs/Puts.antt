-- Laws of what the encoder writes: the bytes of a code point, and one code point after another. Assumes nothing.
use Rattle.lists.proofs.Kit.{◌≡◌, refl, ap, sym, ◌∙◌, List, [], ◌∷◌, ◌++◌, Bool, true, false, not, ◌||◌, ℕ, suc, ◌+◌, ◌/◌, ◌%◌, ◌≤◌, ◌<◌, add-zero, add-one}
use Rattle.lists.proofs.Kit.{add-two, add-three, arith, length, get_or, set, drop, length-set, length-append, drop_of_length-le, sets}
use Rattle.lists.specs.Lists.{any}
use Rattle.lists.proofs.Lists.{drop_at}
use Rattle.chars.specs.Scalar.{is_scalar, not_scalar}
use Rattle.utf8.specs.Encoding.{encoding, utf8}
use Rattle.utf8.specs.Walks.{Put}
use Rattle.utf8.specs.Rooms.{PointRoom}
use Rattle.utf8.proofs.Encodings.{scalar_most, encoding_one, encoding_two, encoding_three, encoding_four, size_one, size_two, size_three, size_four}

-- what is written of one
module _ (x : ℕ) where
  module _ (bytes : List ℕ) (at : ℕ) where
    pub put_one : x < 0x80 → Put bytes at (encoding x) (at + 1) (set bytes at x)
    put_one h = record { next = omega (arith, size_one x h); left = rw (encoding_one x h); size = length-set bytes at x }

    pub put_two : 0x80 ≤ x → x < 0x800 → Put bytes at (encoding x) (at + 2) (set (set bytes at (0xc0 + x / 64)) (at + 1) (0x80 + x % 64))
    put_two h k =
        record {
          next = omega (arith, size_two x h k);
          left = rw (encoding_two x _ _ h k refl refl, add-one at);
          size = simp length-set;
        }

    pub put_three : 0x800 ≤ x → x < 0x10000 →
        Put bytes at (encoding x) (at + 3) (set (set (set bytes at (0xe0 + x / 4096)) (at + 1) (0x80 + x / 64 % 64)) (at + 2) (0x80 + x % 64))
    put_three h k =
        record {
          next = omega (arith, size_three x h k);
          left = rw (encoding_three x _ _ _ h k refl refl refl, add-one at, add-two at);
          size = simp length-set;
        }

    pub put_four : 0x10000 ≤ x → Put bytes at (encoding x) (at + 4)
        (set (set (set (set bytes at (0xf0 + x / 262144)) (at + 1) (0x80 + x / 4096 % 64)) (at + 2) (0x80 + x / 64 % 64)) (at + 3) (0x80 + x % 64))
    put_four h =
        record {
          next = omega (arith, size_four x h);
          left = rw (encoding_four x _ _ _ _ h refl refl refl refl, add-one at, add-two at, add-three at);
          size = simp length-set;
        }

-- the next code point of a text
pub utf8_at : (t : List ℕ) (i : ℕ) → i < length t → utf8 (drop i t) ≡ encoding (get_or t i 0) ++ utf8 (drop (i + 1) t)
unfolding utf8
utf8_at t i h = rw (drop_at t i h)

pub utf8_end : (t : List ℕ) (i : ℕ) → length t ≤ i → utf8 (drop i t) ≡ []
unfolding utf8
utf8_end t i h = rw (drop_of_length-le t h)

scalar_first : (x : ℕ) (l : List ℕ) → any not_scalar (x ∷ l) ≡ false → (is_scalar x ≡ true) × (any not_scalar l ≡ false)
unfolding any
scalar_first x l e = go (is_scalar x) refl e
  where
    go : (b : Bool) → is_scalar x ≡ b → (not b || any not_scalar l) ≡ false → (is_scalar x ≡ true) × (any not_scalar l ≡ false)
    go true p q = (p, q)
    go false p q = let never : ◌≡◌ {A = ℕ} 0 1 = cc in absurd (omega arith)

sets_append : (x y out : List ℕ) (at : ℕ) → sets out at (x ++ y) ≡ sets (sets out at x) (at + length x) y
sets_append [] y out at = rw add-zero
sets_append (a ∷ x) y out at = sets_append x y (set out at a) (suc at) ∙ ap (λ (n : ℕ). sets (sets (set out at a) (suc at) x) n y) (omega arith)

-- where the writing stands: with what is left of the text it comes to the whole
pub record Laying (t room : List ℕ) (at i : ℕ) (bytes : List ℕ) : Type 0 where
  pub within : i ≤ length t
  pub scalar : any not_scalar (drop i t) ≡ false
  pub total : at + length (utf8 (drop i t)) ≡ length (utf8 t)
  pub whole : sets bytes at (utf8 (drop i t)) ≡ sets room 0 (utf8 t)
  pub size : length bytes ≡ length room

module _ {t room bytes : List ℕ} {at i : ℕ} (w : Laying t room at i bytes) where
  pub laying_room : i < length t → length (utf8 t) ≤ length room → PointRoom (get_or t i 0) at bytes
  laying_room h k =
      let value = get_or t i 0 in
      let rest = utf8 (drop (i + 1) t) in
      let by_scalar_first = scalar_first value (drop (i + 1) t) (rw (drop_at t i h) at w.scalar) in
      record {
        point = scalar_most value by_scalar_first.0;
        room = omega (arith, w.total, w.size, ap length (utf8_at t i h), length-append (encoding value) rest);
      }

  pub laying_on : i < length t → {at' : ℕ} {bytes' : List ℕ} → Put bytes at (encoding (get_or t i 0)) at' bytes' → Laying t room at' (i + 1) bytes'
  laying_on h {at'} {bytes'} p =
      let value = get_or t i 0 in
      let rest = utf8 (drop (i + 1) t) in
      record {
        within = omega arith;
        scalar = (scalar_first value (drop (i + 1) t) (rw (drop_at t i h) at w.scalar)).1;
        total = omega (arith, w.total, p.next, ap length (utf8_at t i h), length-append (encoding value) rest);
        whole = rw (p.left, p.next) (sym (sets_append (encoding value) rest bytes at) ∙ ap (sets bytes at) (sym (utf8_at t i h)) ∙ w.whole);
        size = p.size ∙ w.size;
      }

  pub laying_end : length t ≤ i → bytes ≡ sets room 0 (utf8 t)
  laying_end h = sym (ap (sets bytes at) (utf8_end t i h)) ∙ w.whole
