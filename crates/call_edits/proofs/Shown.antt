-- What an edit leaves fits the numbers of a host, and what the call leaves of what is lent. Assumes nothing.
use Rattle.lists.proofs.Kit.{◌≡◌, refl, ◌∙◌, subst, List, [], ◌∷◌, Bool, true, false, cond, not, ◌||◌, ℕ, ◌-◌, ◌*◌, ◌/◌, ◌%◌, ◌≤◌, ℕ_discrete, arith, length}
use Rattle.lists.proofs.Kit.{take, eqb, ltb, eq-eqb, ne_eqb, ltb-false}
use Rattle.text.specs.Text.{row_count}
use Rattle.text.specs.declared.Position.{Position}
use Rattle.folds.specs.Folds.{any_fold, bad_fold, fold_refusal}
use Rattle.motions.specs.declared.Caret.{Caret}
use Rattle.motions.specs.Carets.{here}
use Rattle.call_bytes.specs.Reply.{Replied}
use Rattle.call_bytes.proofs.Replies.{replied_of}
use Rattle.edit_folds.specs.Folds.{mapped_row, is_lost, kept_folds}
use Rattle.edit_checks.specs.declared.Sizes.{Sizes}
use Rattle.edit_checks.specs.Checks.{check_of}
use Rattle.edits.specs.declared.Edited.{Edited}
use Rattle.edits.specs.declared.Edited.TheVariants.{Done, Refused}
use Rattle.edits.specs.Edits.{left_of, edited_by, refusal_of, EditsTo}
use Rattle.edits.proofs.Known.{editable}
use Rattle.call_edits.specs.Edits.{len_of, count_of, Fits, caret_reply, sizes_reply, caret_in, sizes_in, HostEdits}

-- no fold is added
pub kept_shorter : (f : ℕ → ℕ) (l : List ℕ) → length (kept_folds f l) ≤ length l
unfolding kept_folds
kept_shorter f [] = omega arith
kept_shorter f (s ∷ []) = omega arith
kept_shorter f (s ∷ e ∷ []) = omega arith
kept_shorter f (s ∷ e ∷ closed ∷ folds) = go (is_lost s e (f s) (f e)) (kept_shorter f folds)
  where
    go : (b : Bool) → length (kept_folds f folds) ≤ length folds →
        length (cond b (kept_folds f folds) (f s ∷ f e ∷ closed ∷ kept_folds f folds)) ≤ length (s ∷ e ∷ closed ∷ folds)
    go true h = omega arith
    go false h = omega arith

-- folds that are accepted are 256 at most
few_folds : (folds : List ℕ) (rows : ℕ) → fold_refusal folds rows ≡ 0 → length folds / 3 ≤ 256
unfolding fold_refusal
few_folds folds rows z = go (not (eqb (length folds % 3) 0)) (ltb 256 (length folds / 3)) (any_fold (bad_fold rows) folds) refl z
  where
    go : (a b c : Bool) → ltb 256 (length folds / 3) ≡ b → ◌≡◌ {A = ℕ} (cond (a || (b || c)) 5 0) 0 → length folds / 3 ≤ 256
    go true b c e h = absurd (omega (arith, h))
    go false true c e h = absurd (omega (arith, h))
    go false false c e h = ltb-false 256 (length folds / 3) e

module _ (buf folds : List ℕ) (s : Sizes) (p q : Position) (c : List ℕ) (k : Caret) (e : Edited) where
  pub host_fits : e ≡ edited_by (refusal_of buf folds s p q c k) (left_of buf folds s p q c k) → Fits e
  unfolding edited_by len_of count_of
  host_fits is = go (ℕ_discrete (refusal_of buf folds s p q c k) 0)
    where
      go : Dec (refusal_of buf folds s p q c k ≡ 0) → Fits e
      go (yes z) =
          let by_editable = editable buf folds s p q c k z (check_of buf folds s p q c (here k)) refl in
          let e_is : e ≡ Done (left_of buf folds s p q c k) = is ∙ rw (eq-eqb (refusal_of buf folds s p q c k) 0 z) in
          let by_few_folds = few_folds (take (3 * s.count) folds) (row_count (take s.len buf)) by_editable.folds_good in
          let by_kept_shorter = kept_shorter (mapped_row p.row q.row (row_count c - 1)) (take (3 * s.count) folds) in
          rw e_is (record { len_fits = omega (arith, by_editable.new_brief); count_fits = omega (arith, by_few_folds, by_kept_shorter) })
      go (no n) =
          let e_is : e ≡ Refused (refusal_of buf folds s p q c k) = is ∙ rw (ne_eqb (refusal_of buf folds s p q c k) 0 n) in
          rw e_is (record { len_fits = omega arith; count_fits = omega arith })

module _ {buf folds : List ℕ} {s : Sizes} {p q : Position} {c : List ℕ} {k : Caret} {e : Edited} where
  pub host_edits : {caret sizes : List ℕ} {r : ℕ} {buf' folds' caret' sizes' : List ℕ} → EditsTo buf folds s p q c k e buf' folds' →
      k ≡ caret_in caret → s ≡ sizes_in sizes → Replied (caret_reply e) caret r caret' → Replied (sizes_reply e) sizes r sizes' →
      HostEdits buf folds p q c caret sizes r buf' folds' caret' sizes'
  host_edits {caret} {sizes} {r} {buf'} {folds'} {caret'} {sizes'} w k_is s_is x y =
      let carried = subst (λ (j : Sizes). EditsTo buf folds j p q c (caret_in caret) e buf' folds') s_is
      (subst (λ (j : Caret). EditsTo buf folds s p q c j e buf' folds') k_is w) in
      record {
        caret_left = replied_of caret_reply carried.answer x;
        sizes_left = replied_of sizes_reply carried.answer y;
        text_left = carried.text;
        folds_left = carried.folds;
      }
