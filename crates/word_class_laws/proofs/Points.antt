-- The class of each place of a text by its code points, and the position of a place. Assumes nothing.
use Rattle.lists.proofs.Kit.{◌≡◌, refl, ap, sym, ◌∙◌, List, [], ◌∷◌, Bool, true, false, cond, ◌||◌, ℕ, zero, suc, ◌-◌, ◌≤◌, ◌<◌, ℕ_discrete, arith, length}
use Rattle.lists.proofs.Kit.{get_or, eqb, leb, eq-eqb, ne_eqb}
use Rattle.chars.specs.White.{is_white}
use Rattle.text.specs.Text.{position}
use Rattle.text.specs.Offsets
use Rattle.text.proofs.Stands.{row_there, at_stands, stands_row}
use Rattle.word_kinds.specs.declared.Spot.{Spot}
use Rattle.word_kinds.specs.Spots.{place_of, IsSpot}
use Rattle.word_kinds.specs.Places
use Rattle.word_classes.specs.Classes.{char_class, end_class, class_of, classes_from}
use Rattle.word_places.specs.Places.{kind_for}
use Rattle.word_class_laws.specs.Determines.{pos, named}

-- whether a place is the first of its row
unfoldable pub fresh : Bool → List ℕ → ℕ → Bool
fresh first t zero = first
fresh first t (suc i) = eqb (get_or t i 0) 10

module _ (word : ℕ → Bool) where
  pub class_there : (first : Bool) (t : List ℕ) (i : ℕ) → i < length t → get_or (classes_from word first t) i 4 ≡ class_of word (fresh first t i) (get_or t i 0)
  unfolding classes_from fresh
  class_there first [] i h = absurd (omega arith)
  class_there first (x ∷ t) zero h = refl
  class_there first (x ∷ t) (suc zero) h = class_there (eqb x 10) t zero (omega arith)
  class_there first (x ∷ t) (suc (suc i)) h = class_there (eqb x 10) t (suc i) (omega arith)

  pub class_last : (first : Bool) (t : List ℕ) → get_or (classes_from word first t) (length t) 4 ≡ end_class (fresh first t (length t))
  unfolding classes_from fresh
  class_last first [] = refl
  class_last first (x ∷ []) = class_last (eqb x 10) []
  class_last first (x ∷ y ∷ t) = class_last (eqb x 10) (y ∷ t)

-- what the classes of a place say
module _ (word : ℕ → Bool) (big : Bool) where
  -- that of an end
  pub end_says : (b : Bool) → (kind_for big (end_class b) ≡ 4) × (leb 3 (end_class b) ≡ true) × (eqb (end_class b) 3 ≡ b)
  unfolding end_class kind_for
  end_says true = (refl, refl, refl)
  end_says false = by big
    where
      by : (b : Bool) → (kind_for b 4 ≡ 4) × (leb 3 4 ≡ true) × (eqb 4 3 ≡ false)
      by true = (refl, refl, refl)
      by false = (refl, refl, refl)

  -- and that of a character
  pub char_says : (x : ℕ) →
      (Places.kind_of word big x ≡ named (kind_for big (char_class word x))) × (leb 3 (char_class word x) ≡ false) × (eqb (char_class word x) 3 ≡ false)
      × (eqb (kind_for big (char_class word x)) 4 ≡ false)
  unfolding char_class kind_for named Places.kind_of
  char_says x = go (is_white x) (word x) big
    where
      go : (a b d : Bool) → (cond a 0 (cond (d || b) 1 2) ≡ named (kind_for d (cond a 2 (cond b 0 1)))) × (leb 3 (cond a 2 (cond b 0 1)) ≡ false)
          × (eqb (cond a 2 (cond b 0 1)) 3 ≡ false) × (eqb (kind_for d (cond a 2 (cond b 0 1))) 4 ≡ false)
      go true b true = (refl, refl, refl, refl)
      go true b false = (refl, refl, refl, refl)
      go false true true = (refl, refl, refl, refl)
      go false true false = (refl, refl, refl, refl)
      go false false true = (refl, refl, refl, refl)
      go false false false = (refl, refl, refl, refl)

-- the numbers of the kinds are told apart alike
unnamed : ℕ → ℕ
unnamed zero = 2
unnamed (suc zero) = 0
unnamed (suc (suc zero)) = 1
unnamed (suc (suc (suc zero))) = 4
unnamed (suc (suc (suc (suc zero)))) = 3
unnamed (suc (suc (suc (suc (suc k))))) = suc (suc (suc (suc (suc k))))

undo : (k : ℕ) → unnamed (named k) ≡ k
unfolding named unnamed
undo zero = refl
undo (suc zero) = refl
undo (suc (suc zero)) = refl
undo (suc (suc (suc zero))) = refl
undo (suc (suc (suc (suc zero)))) = refl
undo (suc (suc (suc (suc (suc k))))) = refl

pub named_same : (a b : ℕ) → eqb (named a) (named b) ≡ eqb a b
named_same a b = go (ℕ_discrete a b)
  where
    go : Dec (a ≡ b) → eqb (named a) (named b) ≡ eqb a b
    go (yes e) = eq-eqb (named a) (named b) (ap named e) ∙ sym (eq-eqb a b e)
    go (no n) = ne_eqb (named a) (named b) (λ e. n (sym (undo a) ∙ ap unnamed e ∙ undo b)) ∙ sym (ne_eqb a b n)

-- the position of a place
pub spot_of : (t : List ℕ) (i : ℕ) → i ≤ length t → IsSpot t (record { row = Offsets.row_of t i; at = i })
spot_of t i h = at_stands (row_there t i h) (Offsets.row_start t (Offsets.row_of t i)) refl

pub spot_pos : (t : List ℕ) (q : Spot) → IsSpot t q → place_of t q ≡ pos t q.at
spot_pos t q s = sym (ap (λ (r : ℕ). position r (q.at - Offsets.row_start t r)) (stands_row s))
