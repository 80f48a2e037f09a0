-- What the call answers: by the first input that is refused, or by the run. Assumes nothing.
use Rattle.lists.proofs.Kit.{◌≡◌, refl, ap, sym, subst, ◌∙◌, List, [], ◌∷◌, ◌++◌, false, ℕ, ◌+◌, arith, length, drop, eq-eqb, ne_eqb}
use Rattle.text_check.specs.Accept.{text_refusal}
use Rattle.text.specs.Text.{row_count}
use Rattle.folds.specs.Folds.{fold_refusal}
use Rattle.list_tokens.specs.Tokens.{in_list}
use Rattle.keywords.specs.Table.{parse_of}
use Rattle.word_kinds.specs.Places.{kind_of}
use Rattle.edit_places.specs.Replaced.{replaced, Over}
use Rattle.row_table.specs.Table.{table_refusal}
use Rattle.positions.specs.Positions
use Rattle.positions.specs.Positions.{lowest, refusal_folds}
use Rattle.motions.specs.declared.Caret.{Caret}
use Rattle.motions.specs.declared.Moved.TheVariants.{To, Refused}
use Rattle.motions.specs.Carets.{here, put, caret_refusal, moving}
use Rattle.jumps.specs.Jumps.{places_after, caret_at_end, kind_refusal, answer_refusal, late_refusal, jumps_refusal, JumpsTo}
use Rattle.jumps.specs.Leaps.{leap_places, leap_end}
use Rattle.jumps.specs.Footings.{Course}
use Rattle.jumps.proofs.Single.{places_in_turn, caret_in_turn}
use Rattle.jumps.proofs.Running.{places_length}
use Rattle.jumps.proofs.Late.{lowest_back, lowest_front}

module _ (t starts : List ℕ) (content : ℕ) (folds list : List ℕ) (k : Caret) (jumps answers : List ℕ) where
  module _ {f : ℕ} (n : f ≡ 0 → ⊥) where
    refused : jumps_refusal t starts content folds list k jumps answers ≡ f → JumpsTo t starts content folds list k jumps answers (Refused f) answers
    unfolding moving
    refused e = record { answer = rw (e, ne_eqb f 0 n); left = rw (e, ne_eqb f 0 n) }

    pub refused_early : f ≡ refusal_folds t folds (here k) → JumpsTo t starts content folds list k jumps answers (Refused f) answers
    refused_early e = refused (lowest_front (text_refusal t ∷ caret_refusal t k ∷ fold_refusal folds (row_count t) ∷ [])
        ((parse_of list).refusal ∷ table_refusal (row_count t) t starts content ∷ kind_refusal jumps ∷ answer_refusal jumps (length answers) ∷ [])
        (λ z. n (e ∙ z)) ∙ sym e)

    pub refused_list : refusal_folds t folds (here k) ≡ 0 → f ≡ (parse_of list).refusal → JumpsTo t starts content folds list k jumps answers (Refused f) answers
    unfolding lowest
    refused_list z e = refused (lowest_back (text_refusal t ∷ caret_refusal t k ∷ fold_refusal folds (row_count t) ∷ [])
        ((parse_of list).refusal ∷ table_refusal (row_count t) t starts content ∷ kind_refusal jumps ∷ answer_refusal jumps (length answers) ∷ []) z
        ∙ rw (← e, ne_eqb f 0 n))

  late : refusal_folds t folds (here k) ≡ 0 → (parse_of list).refusal ≡ 0 →
      jumps_refusal t starts content folds list k jumps answers ≡ late_refusal t starts content jumps (length answers)
  unfolding lowest
  late z e = lowest_back (text_refusal t ∷ caret_refusal t k ∷ fold_refusal folds (row_count t) ∷ [])
      ((parse_of list).refusal ∷ table_refusal (row_count t) t starts content ∷ kind_refusal jumps ∷ answer_refusal jumps (length answers) ∷ []) z
      ∙ rw (eq-eqb (parse_of list).refusal 0 e)

  pub refused_late : refusal_folds t folds (here k) ≡ 0 → (parse_of list).refusal ≡ 0 → {f : ℕ} → (f ≡ 0 → ⊥) →
      f ≡ late_refusal t starts content jumps (length answers) → JumpsTo t starts content folds list k jumps answers (Refused f) answers
  refused_late z e n q = refused n (late z e ∙ sym q)

  pub run_through : refusal_folds t folds (here k) ≡ 0 → (parse_of list).refusal ≡ 0 → late_refusal t starts content jumps (length answers) ≡ 0 →
      {c : Caret} {answers' : List ℕ} → c ≡ caret_at_end t folds list jumps k → answers' ≡ places_after t folds list jumps k ++ drop (length jumps) answers →
      JumpsTo t starts content folds list k jumps answers (To c) answers'
  unfolding moving
  run_through z e q c_is a_is =
      let none = late z e ∙ q in
      record { answer = rw none (ap To c_is); left = rw none a_is }

-- no jump
pub none_caret : (t folds list jumps : List ℕ) (k : Caret) → length jumps ≡ 0 → k ≡ caret_at_end t folds list jumps k
unfolding caret_at_end
none_caret t folds list [] k e = refl
none_caret t folds list (x ∷ jumps) k e = absurd (omega (arith, e))

pub none_places : (t folds list jumps answers : List ℕ) (k : Caret) → length jumps ≡ 0 →
    answers ≡ places_after t folds list jumps k ++ drop (length jumps) answers
unfolding places_after
none_places t folds list [] answers k e = refl
none_places t folds list (x ∷ jumps) answers k e = absurd (omega (arith, e))

-- what is written from the first place on
pub over_first : {e s buf : List ℕ} (n : ℕ) → Over e 0 s buf → length s ≡ n → buf ≡ s ++ drop n e
unfolding replaced
over_first {e} {s} {buf} n o q =
    let sum_is : 0 + length s ≡ n = omega (arith, q) in
    rw sum_is at o.left

pub over_as : {e s s' buf : List ℕ} → s ≡ s' → Over e 0 s buf → Over e 0 s' buf
over_as {e} {s} {s'} {buf} q o = subst (λ (l : List ℕ). Over e 0 l buf) q o

-- the run is the single calls in turn
module _ (t folds list : List ℕ) (k : Caret) (jumps answers : List ℕ) (clear : text_refusal t ≡ 0) (good : fold_refusal folds (row_count t) ≡ 0)
    (listed : (parse_of list).refusal ≡ 0) (inside : Positions.Inside t (here k)) (course : Course jumps answers) {class : ℕ → ℕ}
    (same : class ≡ kind_of (in_list list) false) where
  pub through_caret : (length jumps ≡ 0 → ⊥) → {c : Caret} → c ≡ put k (leap_end t folds class jumps (here k)) → c ≡ caret_at_end t folds list jumps k
  through_caret n e = e ∙ ap (λ (f : ℕ → ℕ). put k (leap_end t folds f jumps (here k))) same
      ∙ sym (caret_in_turn t folds list clear good listed jumps k inside course.kinds n)

  pub through_places : {buf : List ℕ} → Over answers 0 (leap_places t folds class jumps (here k)) buf →
      buf ≡ places_after t folds list jumps k ++ drop (length jumps) answers
  through_places o = over_first (length jumps) o (places_length t folds class jumps (here k) course.kinds)
      ∙ ap (λ (l : List ℕ). l ++ drop (length jumps) answers)
      (ap (λ (f : ℕ → ℕ). leap_places t folds f jumps (here k)) same ∙ sym (places_in_turn t folds list clear good listed jumps k inside course.kinds))
