-- The refusals of a call by the classes, check by check. Assumes nothing.
use Rattle.lists.proofs.Kit.{◌≡◌, ap, sym, ◌∙◌, List, [], ◌∷◌, ℕ, eq-eqb, ne_eqb}
use Rattle.text_check.specs.Accept.{text_refusal}
use Rattle.text.specs.Text.{row_count}
use Rattle.folds.specs.Folds.{fold_refusal}
use Rattle.keywords.specs.Table.{parse_of}
use Rattle.positions.specs.declared.Entry.{Entry}
use Rattle.positions.specs.Positions.{lowest, or_folds}
use Rattle.positions.proofs.Entered.{folds_number}
use Rattle.positions.proofs.Checks.{inside_at}
use Rattle.positions.proofs.Lowest.{lowest_none, lowest_kept, lowest_last}
use Rattle.word_classes.specs.Call.{places_refusal}
use Rattle.motions.specs.declared.Caret.{Caret}
use Rattle.motions.specs.declared.Moved.TheVariants.{To, Refused}
use Rattle.motions.specs.Carets.{here, Inside, caret_refusal, entry_of, moving}
use Rattle.caret_by_class.specs.ByClass.{class_refusal}

module _ (t folds list : List ℕ) (k : Caret) (room : List ℕ) where
  abbrev three : List ℕ
  three = text_refusal t ∷ caret_refusal t k ∷ fold_refusal folds (row_count t) ∷ []

  four : List ℕ
  four = text_refusal t ∷ caret_refusal t k ∷ fold_refusal folds (row_count t) ∷ (parse_of list).refusal ∷ []

  pub by_three : (f : ℕ) → f ≡ lowest three → (f ≡ 0 → ⊥) → class_refusal t folds list k room ≡ f
  unfolding four
  by_three f e n =
      let lowest_not : lowest three ≡ 0 → ⊥ = λ z. n (e ∙ z) in
      let by_lowest_kept = lowest_kept three (parse_of list).refusal lowest_not in
      lowest_kept four (places_refusal t room) (λ z. lowest_not (sym by_lowest_kept ∙ z)) ∙ by_lowest_kept ∙ sym e

  module _ (z : lowest three ≡ 0) where
    pub by_list : ((parse_of list).refusal ≡ 0 → ⊥) → class_refusal t folds list k room ≡ (parse_of list).refusal
    unfolding four
    by_list n =
        let by_lowest_last = lowest_last three (parse_of list).refusal z in
        lowest_kept four (places_refusal t room) (λ q. n (sym by_lowest_last ∙ q)) ∙ by_lowest_last

    pub by_places : (parse_of list).refusal ≡ 0 → class_refusal t folds list k room ≡ places_refusal t room
    unfolding four
    by_places e = lowest_last four (places_refusal t room) (lowest_last three (parse_of list).refusal z ∙ e)

-- the answer, by the refusal
module _ {f g : ℕ} (q : f ≡ g) where
  pub answer_refused : (k : Caret) → (f ≡ 0 → ⊥) → Refused f ≡ moving g k
  unfolding moving
  answer_refused k n = rw (← q, ne_eqb f 0 n)

  pub answer_given : (a k : Caret) → f ≡ 0 → a ≡ k → To a ≡ moving g k
  unfolding moving
  answer_given a k z e = rw (← q, eq-eqb f 0 z) (ap To e)

-- the first three, as the checks of a call find them
pub entered_three : (t own folds : List ℕ) (k : Caret) (e : Entry) → e ≡ entry_of t k → own ≡ folds → {f : ℕ} → f ≡ or_folds e own →
    f ≡ lowest (text_refusal t ∷ caret_refusal t k ∷ fold_refusal folds (row_count t) ∷ [])
entered_three t own folds k e is same q = q ∙ folds_number t (here k) e is own ∙
    ap (λ (x : List ℕ). lowest (text_refusal t ∷ caret_refusal t k ∷ fold_refusal x (row_count t) ∷ [])) same

-- what an accepted call has
pub three_none : (t folds : List ℕ) (k : Caret) → lowest (text_refusal t ∷ caret_refusal t k ∷ fold_refusal folds (row_count t) ∷ []) ≡ 0 →
    (text_refusal t ≡ 0) × Inside t k × (fold_refusal folds (row_count t) ≡ 0)
three_none t folds k z =
    let by_lowest_none = lowest_none (text_refusal t) (caret_refusal t k ∷ fold_refusal folds (row_count t) ∷ []) z in
    let lowest_none_here = lowest_none (caret_refusal t k) (fold_refusal folds (row_count t) ∷ []) by_lowest_none.1 in
    (by_lowest_none.0, inside_at t (here k) lowest_none_here.0, (lowest_none (fold_refusal folds (row_count t)) [] lowest_none_here.1).0)
