-- A text of accepted parts is accepted, where it is not too long. Assumes nothing.
use Rattle.lists.proofs.Kit.{◌≡◌, refl, List, [], ◌∷◌, ◌++◌, Bool, true, false, cond, ℕ, zero, suc, ◌≤◌, arith, length, take, drop, ltb, le-ltb}
use Rattle.lists.specs.Lists.{any}
use Rattle.chars.specs.Scalar.{not_scalar}
use Rattle.text_check.specs.Accept.{is_break, text_refusal}
use Rattle.edits.proofs.Small.{neither}
use Rattle.edit_places.specs.Replaced.{replaced}

-- none in a part, none in two parts
module _ (f : ℕ → Bool) where
  none_append : (x y : List ℕ) → any f x ≡ false → any f y ≡ false → any f (x ++ y) ≡ false
  unfolding any
  none_append [] y a b = b
  none_append (v ∷ x) y a b =
      let by_neither = neither (f v) (any f x) a in
      rw by_neither.0 (none_append x y by_neither.1 b)

  none_take : (i : ℕ) (x : List ℕ) → any f x ≡ false → any f (take i x) ≡ false
  unfolding any
  none_take zero x a = refl
  none_take (suc i) [] a = refl
  none_take (suc i) (v ∷ x) a =
      let by_neither = neither (f v) (any f x) a in
      rw by_neither.0 (none_take i x by_neither.1)

  none_drop : (i : ℕ) (x : List ℕ) → any f x ≡ false → any f (drop i x) ≡ false
  unfolding any
  none_drop zero x a = a
  none_drop (suc i) [] a = a
  none_drop (suc i) (v ∷ x) a = none_drop i x (neither (f v) (any f x) a).1

  none_replaced : (t : List ℕ) (a b : ℕ) (c : List ℕ) → any f t ≡ false → any f c ≡ false → any f (replaced t a b c) ≡ false
  unfolding replaced
  none_replaced t a b c x y = none_append (take a t ++ c) (drop b t) (none_append (take a t) c (none_take a t x) y) (none_drop b t x)

good_parts : (t : List ℕ) → text_refusal t ≡ 0 → (any not_scalar t ≡ false) × (any is_break t ≡ false)
unfolding text_refusal
good_parts t e = go (ltb 1048576 (length t)) (any not_scalar t) (any is_break t) e
  where
    go : (a b d : Bool) → ◌≡◌ {A = ℕ} (cond a 1 (cond b 2 (cond d 3 0))) 0 → (b ≡ false) × (d ≡ false)
    go true b d h = absurd (omega arith)
    go false true d h = absurd (omega arith)
    go false false true h = absurd (omega arith)
    go false false false h = (refl, refl)

pub replaced_good : (t : List ℕ) (a b : ℕ) (c : List ℕ) → text_refusal t ≡ 0 → text_refusal c ≡ 0 → length (replaced t a b c) ≤ 1048576 →
    text_refusal (replaced t a b c) ≡ 0
unfolding text_refusal
replaced_good t a b c x y h =
    let by_good_parts = good_parts t x in
    let by_good_parts_c = good_parts c y in
    rw (
      le-ltb 1048576 (length (replaced t a b c)) h,
      none_replaced not_scalar t a b c by_good_parts.0 by_good_parts_c.0,
      none_replaced is_break t a b c by_good_parts.1 by_good_parts_c.1,
    )
