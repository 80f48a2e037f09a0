-- Where the signs of a part are: white space is neither `+` nor `-`, so each is found without trimming the part. Assumes nothing.
use Rattle.lists.proofs.Kit.{◌≡◌, refl, ap, sym, ◌∙◌, List, [], ◌∷◌, ◌++◌, Bool, true, false, cond, true≢false, ℕ, suc, ◌+◌, ◌<◌, zero-add, dec_lt, arith}
use Rattle.lists.proofs.Kit.{length, get_or, get_or-eq_default, eqb, ne_eqb}
use Rattle.lists.proofs.Both.{both}
use Rattle.lists.specs.Lists.{up_to}
use Rattle.chars.specs.White.{whites, is_white}
use Rattle.list_parts.specs.Parts.{trim}
use Rattle.list_signs.specs.Signs.{before, behind}
use Rattle.list_signs.specs.Marks.{leads, seconds}
use Rattle.list_signs.proofs.WhiteLaws.{all_white, before_white, split_part}

-- a value that is no white space is sought past it
pub up_to_white : (x : ℕ) (w q : List ℕ) → is_white x ≡ false → all_white w ≡ true → up_to x (w ++ q) ≡ length w + up_to x q
unfolding up_to all_white
up_to_white x [] q n h = sym (zero-add _)
up_to_white x (y ∷ w) q n h =
    let by_both = both (is_white y) (all_white w) h in
    let other : y ≡ x → ⊥ = λ e. true≢false (sym by_both.0 ∙ ap is_white e ∙ n) in
    let rest = up_to_white x w q n by_both.1 in
    rw (ne_eqb y x other) (omega (arith, rest))

-- and in what stands before
pub up_to_front : (x : ℕ) (t w : List ℕ) → up_to x t < length t → up_to x (t ++ w) ≡ up_to x t
unfolding up_to
up_to_front x [] w h = absurd (omega arith)
up_to_front x (y ∷ t) w h = go (eqb y x) refl (λ (m : up_to x t < length t). up_to_front x t w m)
  where
    go : (b : Bool) → eqb y x ≡ b → (up_to x t < length t → up_to x (t ++ w) ≡ up_to x t) →
        cond (eqb y x) 0 (suc (up_to x (t ++ w))) ≡ cond (eqb y x) 0 (suc (up_to x t))
    go true e f = rw e
    go false e f = let one_more_below : suc (up_to x t) < suc (length t) = rw e at h in rw (e, f (omega arith))

pub part_place : (x : ℕ) (p : List ℕ) → is_white x ≡ false → up_to x (trim p) < length (trim p) → up_to x p ≡ length (before p) + up_to x (trim p)
part_place x p n h = ap (up_to x) (sym (split_part p)) ∙ up_to_white x (before p) (trim p ++ behind p) n (before_white p)
    ∙ ap (λ (k : ℕ). length (before p) + k) (up_to_front x (trim p) (behind p) h)

pub plus_not_white : is_white 43 ≡ false
unfolding is_white whites
plus_not_white = refl

pub minus_not_white : is_white 45 ≡ false
unfolding is_white whites
minus_not_white = refl

pub lead_place : (p : List ℕ) → leads (trim p) ≡ true → (up_to 43 p ≡ length (before p) + 0) × (0 < length (trim p))
unfolding up_to
lead_place p e = go (trim p) refl e
  where
    go : (t : List ℕ) → trim p ≡ t → leads t ≡ true → (up_to 43 p ≡ length (before p) + 0) × (0 < length (trim p))
    go [] w f = absurd (true≢false (sym f))
    go (x ∷ t) w f =
        let plus = (both (eqb x 43) _ f).0 in
        let up_to_is : up_to 43 (trim p) ≡ 0 = rw (w, plus) in
        let some : 0 < length (trim p) = rw w (omega arith) in
        (part_place 43 p plus_not_white (omega arith) ∙ ap (λ (k : ℕ). length (before p) + k) up_to_is, some)

pub second_place : (p : List ℕ) → seconds (trim p) ≡ true →
    (up_to 45 p + 1 ≡ length (before p) + (up_to 45 (trim p) + 1)) × (up_to 45 (trim p) + 1 < length (trim p))
second_place p e = go (dec_lt (up_to 45 (trim p) + 1) (length (trim p)))
  where
    plus : eqb (get_or (trim p) (up_to 45 (trim p) + 1) 0) 43 ≡ true
    plus = (both _ _ e).0

    go : Dec (up_to 45 (trim p) + 1 < length (trim p)) → (up_to 45 p + 1 ≡ length (before p) + (up_to 45 (trim p) + 1)) × (up_to 45 (trim p) + 1 < length (trim p))
    go (yes h) = (omega (arith, part_place 45 p minus_not_white (omega arith)), h)
    go (no n) =
        let value_is : get_or (trim p) (up_to 45 (trim p) + 1) 0 ≡ 0 = get_or-eq_default (trim p) 0 (omega arith) in
        absurd (true≢false (sym plus ∙ ap (λ (x : ℕ). eqb x 43) value_is))
