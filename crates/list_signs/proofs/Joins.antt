-- Parts joined by commas: a list is its parts joined, and parts without a comma are those of what they are joined to. Assumes nothing.
use Rattle.lists.proofs.Kit.{◌≡◌, refl, ap, sym, ◌∙◌, List, [], ◌∷◌, ◌++◌, Bool, true, false, cond, not, ◌&&◌, ℕ, ◌+◌, arith, length, length-append, eqb}
use Rattle.lists.proofs.Kit.{eqb-true, not-true}
use Rattle.lists.proofs.Both.{both}
use Rattle.lists.specs.Lists.{on_first, split}
use Rattle.list_signs.specs.Signs.{part_signs, signs_in, signs}
use Rattle.list_signs.proofs.PartMarks.{part_length}

unfoldable pub joined : List (List ℕ) → List ℕ
joined [] = []
joined (p ∷ []) = p
joined (p ∷ q ∷ ps) = p ++ (44 ∷ joined (q ∷ ps))

-- there is always a part
unfoldable pub Filled : List (List ℕ) → Type 0
Filled ps = ps ≡ [] → ⊥

pub no_cons : {A : Type 0} (x : A) (l : List A) → x ∷ l ≡ [] → ⊥
no_cons x l e = let same_size = ap length e in omega arith

pub split_some : (l : List ℕ) → Filled (split 44 l)
unfolding split on_first Filled
split_some [] = no_cons _ _
split_some (y ∷ l) = go (eqb y 44) (split 44 l)
  where
    go : (b : Bool) (ps : List (List ℕ)) → cond b ([] ∷ ps) (on_first y ps) ≡ [] → ⊥
    go true ps = no_cons _ _
    go false [] = no_cons _ _
    go false (p ∷ ps) = no_cons _ _

joined_first : (y : ℕ) (ps : List (List ℕ)) → Filled ps → joined (on_first y ps) ≡ y ∷ joined ps
unfolding joined on_first Filled
joined_first y [] s = absurd (s refl)
joined_first y (p ∷ []) s = refl
joined_first y (p ∷ q ∷ ps) s = refl

joined_comma : (ps : List (List ℕ)) → Filled ps → joined ([] ∷ ps) ≡ 44 ∷ joined ps
unfolding joined Filled
joined_comma [] s = absurd (s refl)
joined_comma (p ∷ ps) s = refl

pub joined_split : (l : List ℕ) → joined (split 44 l) ≡ l
unfolding split joined
joined_split [] = refl
joined_split (y ∷ l) = go (eqb y 44) refl (split_some l) (joined_split l)
  where
    go : (b : Bool) → eqb y 44 ≡ b → Filled (split 44 l) → joined (split 44 l) ≡ l → joined (cond b ([] ∷ split 44 l) (on_first y (split 44 l))) ≡ y ∷ l
    go true e s h = joined_comma (split 44 l) s ∙ ap (λ (q : List ℕ). 44 ∷ q) h ∙ ap (λ (x : ℕ). x ∷ l) (sym (eqb-true y 44 e))
    go false e s h = joined_first y (split 44 l) s ∙ ap (λ (q : List ℕ). y ∷ q) h

-- no part has a comma
unfoldable pub no_comma : List ℕ → Bool
no_comma [] = true
no_comma (x ∷ p) = not (eqb x 44) && no_comma p

unfoldable pub no_commas : List (List ℕ) → Bool
no_commas [] = true
no_commas (p ∷ ps) = no_comma p && no_commas ps

pub split_no_commas : (l : List ℕ) → no_commas (split 44 l) ≡ true
unfolding split on_first no_comma no_commas
split_no_commas [] = refl
split_no_commas (y ∷ l) = go (eqb y 44) refl (split 44 l) (split_no_commas l)
  where
    go : (b : Bool) → eqb y 44 ≡ b → (ps : List (List ℕ)) → no_commas ps ≡ true → no_commas (cond b ([] ∷ ps) (on_first y ps)) ≡ true
    go true e ps h = h
    go false e [] h = rw e
    go false e (p ∷ ps) h = rw e h

split_part_comma : (p r : List ℕ) → no_comma p ≡ true → split 44 (p ++ (44 ∷ r)) ≡ p ∷ split 44 r
unfolding split on_first no_comma
split_part_comma [] r h = refl
split_part_comma (x ∷ p) r h =
    let by_both = both (not (eqb x 44)) (no_comma p) h in
    rw (not-true (eqb x 44) by_both.0) (ap (on_first x) (split_part_comma p r by_both.1))

split_part_end : (p : List ℕ) → no_comma p ≡ true → split 44 p ≡ p ∷ []
unfolding split on_first no_comma
split_part_end [] h = refl
split_part_end (x ∷ p) h =
    let by_both = both (not (eqb x 44)) (no_comma p) h in
    rw (not-true (eqb x 44) by_both.0) (ap (on_first x) (split_part_end p by_both.1))

pub split_joined : (ps : List (List ℕ)) → Filled ps → no_commas ps ≡ true → split 44 (joined ps) ≡ ps
unfolding joined no_commas Filled
split_joined [] s h = absurd (s refl)
split_joined (p ∷ []) s h = split_part_end p (both (no_comma p) true h).0
split_joined (p ∷ q ∷ ps) s h =
    let by_both = both (no_comma p) (no_comma q && no_commas ps) h in
    split_part_comma p (joined (q ∷ ps)) by_both.0 ∙ ap (λ (r : List (List ℕ)). p ∷ r) (split_joined (q ∷ ps) (no_cons q ps) by_both.1)

-- a mark for each code point of parts that are joined, and for their end
joined_length : (ps : List (List ℕ)) → Filled ps → length (signs_in ps) ≡ length (joined ps) + 1
unfolding joined signs_in Filled
joined_length [] s = absurd (s refl)
joined_length (p ∷ []) s = length-append (part_signs p) (false ∷ []) ∙ ap (λ (n : ℕ). n + 1) (part_length p)
joined_length (p ∷ q ∷ ps) s = length-append (part_signs p) (false ∷ signs_in (q ∷ ps))
    ∙ omega (arith, part_length p, length-append p (44 ∷ joined (q ∷ ps)), joined_length (q ∷ ps) (no_cons q ps))

pub signs_length : (l : List ℕ) → length (signs l) ≡ length l + 1
signs_length l = joined_length (split 44 l) (split_some l) ∙ ap (λ (q : List ℕ). length q + 1) (joined_split l)
