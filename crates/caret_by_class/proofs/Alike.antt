-- `Alike`: the second engine's call answers and refuses as the first's, but for 14. Assumes nothing.
use Rattle.lists.proofs.Kit.{◌≡◌, ap, sym, ◌∙◌, List, [], ◌∷◌, Bool, ℕ, ◌≤◌, ◌<◌, ℕ_discrete, arith, length, ne_eqb, lt-ltb, le-ltb}
use Rattle.text_check.specs.Accept.{text_refusal}
use Rattle.text.specs.Text.{row_count}
use Rattle.folds.specs.Folds.{fold_refusal}
use Rattle.list_tokens.specs.Tokens.{in_list}
use Rattle.keywords.specs.Table.{parse_of}
use Rattle.positions.proofs.Lowest.{lowest_kept, lowest_last}
use Rattle.word_rounds.specs.declared.Motion.{Motion}
use Rattle.word_classes.specs.Call.{places_refusal}
use Rattle.motions.specs.declared.Caret.{Caret}
use Rattle.motions.specs.declared.Moved.TheVariants.{Refused}
use Rattle.motions.specs.Carets.{caret_refusal, moving}
use Rattle.motions.specs.WordMoves.{word_refusal, word_caret}
use Rattle.caret_by_class.specs.ByClass.{class_refusal}
use Rattle.caret_by_class.specs.Alike.{Alike}

-- the refusal of one more check
module _ (t folds list : List ℕ) (k : Caret) (room : List ℕ) where
  first : List ℕ
  first = text_refusal t ∷ caret_refusal t k ∷ fold_refusal folds (row_count t) ∷ (parse_of list).refusal ∷ []

  first_kept : (word_refusal t folds list k ≡ 0 → ⊥) → class_refusal t folds list k room ≡ word_refusal t folds list k
  unfolding first
  first_kept n = lowest_kept first (places_refusal t room) n

  then_places : word_refusal t folds list k ≡ 0 → class_refusal t folds list k room ≡ places_refusal t room
  unfolding first
  then_places z = lowest_last first (places_refusal t room) z

  places_enough : length t < length room → places_refusal t room ≡ 0
  unfolding places_refusal
  places_enough h = rw (lt-ltb (length t) (length room) h)

  places_few : length room ≤ length t → places_refusal t room ≡ 14
  unfolding places_refusal
  places_few h = rw (le-ltb (length t) (length room) h)

  same_refusal : length t < length room → class_refusal t folds list k room ≡ word_refusal t folds list k
  same_refusal h = go (ℕ_discrete (word_refusal t folds list k) 0)
    where
      go : Dec (word_refusal t folds list k ≡ 0) → class_refusal t folds list k room ≡ word_refusal t folds list k
      go (yes z) = then_places z ∙ places_enough h ∙ sym z
      go (no n) = first_kept n

moving_refused : (f g : ℕ) (k : Caret) → f ≡ g → (g ≡ 0 → ⊥) → moving f k ≡ Refused g
unfolding moving
moving_refused f g k e n = rw (e, ne_eqb g 0 n)

pub alike : (t folds list : List ℕ) (big : Bool) (m : Motion) (stop : Bool) (n : ℕ) (k : Caret) (room : List ℕ) → Alike t folds list big m stop n k room
alike t folds list big m stop n k room =
    let to = word_caret t folds (in_list list) big m stop n k in
    record {
      equal = λ h. ap (λ (f : ℕ). moving f to) (same_refusal t folds list k room h);
      refused = λ z. moving_refused _ _ to (first_kept t folds list k room z) z;
      short = λ z h. moving_refused _ 14 to (then_places t folds list k room z ∙ places_few t folds list k room h) (λ q. omega arith);
    }
