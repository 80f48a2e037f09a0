-- A caret's character stays under it; folds keep their order and their marks. Assumes nothing.
use Rattle.lists.proofs.Kit.{◌≡◌, refl, sym, ap, ◌∙◌, List, [], ◌∷◌, ◌++◌, Bool, true, false, cond, ℕ, ◌+◌, ◌-◌, ◌*◌, ◌≤◌, ◌<◌, arith, length, get_or, drop}
use Rattle.lists.proofs.Kit.{get_or-take, get_or-drop, lt-ltb, le-ltb}
use Rattle.text.specs.declared.Position.{Position}
use Rattle.edit_places.specs.Replaced.{replaced}
use Rattle.edit_places.proofs.Parts.{replaced_front, replaced_behind}
use Rattle.edit_folds.specs.Folds.{is_lost, kept_folds}
use Rattle.edit_positions.specs.After.{offset_of, offset_after}
use Rattle.edit_laws.specs.Laws.{CharactersStay, FoldsInOrder}

-- what stands at a place, as the first of the rest
first_of : (l : List ℕ) (i : ℕ) → get_or l i 0 ≡ get_or (drop i l) 0 0
first_of l i =
    let i_plus_zero : i + 0 ≡ i = omega arith in
    sym (rw i_plus_zero at (get_or-drop i l 0 0))

module _ (t : List ℕ) (a b : ℕ) (c : List ℕ) (inside : a ≤ length t) (order : a ≤ b) where
  kept_before : (x : ℕ) → x < a → get_or (replaced t a b c) (offset_after a b (length c) x) 0 ≡ get_or t x 0
  unfolding offset_after
  kept_before x h = rw (lt-ltb x a h) (
      sym (get_or-take a (replaced t a b c) x 0 h) ∙ ap (λ (l : List ℕ). get_or l x 0) (replaced_front t a b c inside a (omega arith)) ∙ get_or-take a t x 0 h
      )

  kept_behind : (x : ℕ) → b ≤ x → get_or (replaced t a b c) (offset_after a b (length c) x) 0 ≡ get_or t x 0
  unfolding offset_after
  kept_behind x h =
      let difference_is : x - (b - a) + length c ≡ a + length c + (x - b) = omega arith in
      let sum_is : b + (x - b) ≡ x = omega arith in
      rw (le-ltb x a (omega arith), le-ltb x b h, difference_is) (
      first_of (replaced t a b c) (a + length c + (x - b)) ∙ ap (λ (l : List ℕ). get_or l 0 0) (replaced_behind t a b c inside (x - b))
      ∙ sym (first_of t (b + (x - b))) ∙ ap (λ (i : ℕ). get_or t i 0) sum_is
      )

pub characters_stay : (t : List ℕ) (p q : Position) (c : List ℕ) → offset_of t p ≤ length t → offset_of t p ≤ offset_of t q → CharactersStay t p q c
characters_stay t p q c h o =
    record {
      before = λ x l. kept_before t (offset_of t p) (offset_of t q) c h o x l;
      behind = λ x l. kept_behind t (offset_of t p) (offset_of t q) c h o x l;
    }

module _ (f : ℕ → ℕ) where
  joined : (b : Bool) (x y z : ℕ) (r m : List ℕ) → cond b (r ++ m) (x ∷ y ∷ z ∷ (r ++ m)) ≡ cond b r (x ∷ y ∷ z ∷ r) ++ m
  joined true x y z r m = refl
  joined false x y z r m = refl

  kept_append : (l m : List ℕ) (n : ℕ) → length l ≡ 3 * n → kept_folds f (l ++ m) ≡ kept_folds f l ++ kept_folds f m
  unfolding kept_folds
  kept_append [] m n e = refl
  kept_append (s ∷ []) m n e = absurd (omega arith)
  kept_append (s ∷ t ∷ []) m n e = absurd (omega arith)
  kept_append (s ∷ t ∷ k ∷ l) m n e = rw (kept_append l m (n - 1) (omega arith)) (joined (is_lost s t (f s) (f t)) (f s) (f t) k (kept_folds f l) (kept_folds f m))

  pub folds_in_order : FoldsInOrder f
  unfolding kept_folds
  folds_in_order = record { apart = kept_append; alone = λ s e k. refl }
