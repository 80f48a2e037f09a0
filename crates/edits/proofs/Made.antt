-- The edit itself, and the answer: what its parts leave is what the definition says. Assumes nothing.
use Rattle.lists.proofs.Kit.{◌≡◌, sym, ap, ◌∙◌, subst, List, ℕ, ◌+◌, ◌-◌, ◌*◌, ◌/◌, arith, length, take, length-take-le, eq-eqb, ne_eqb}
use Rattle.text.specs.Text.{row_count}
use Rattle.text.specs.declared.Position.{Position}
use Rattle.text.proofs.At.{at_le}
use Rattle.motions.specs.declared.Caret.{Caret}
use Rattle.motions.specs.Carets.{here}
use Rattle.edit_places.specs.Replaced.{replaced, refilled, Refilled}
use Rattle.edit_places.proofs.Parts.{replaced_length}
use Rattle.edit_folds.specs.Folds.{mapped_row, kept_folds, Raises, FoldsMapped}
use Rattle.edit_positions.specs.After.{offset_of}
use Rattle.edit_positions.specs.Change.{end_of}
use Rattle.edit_checks.specs.declared.Checked.{Checked}
use Rattle.edit_checks.specs.declared.Sizes.{Sizes}
use Rattle.edit_checks.specs.Checks.{check_of}
use Rattle.edit_checks.proofs.Spots.{checked_number}
use Rattle.edit_carets.specs.Carets.{caret_after, corrected_by, Fits}
use Rattle.edit_carets.proofs.Follows.{corrected_after}
use Rattle.edits.specs.declared.Left.{Left}
use Rattle.edits.specs.declared.Edited.TheVariants.{Done, Refused}
use Rattle.edits.specs.Edits.{new_text, new_folds, edited_by, kept_by, refusal_of, EditsTo}
use Rattle.edits.specs.Editable.{Editable, MakesTo}
use Rattle.edits.proofs.Making.{end_rows}

module _ {buf folds : List ℕ} {s : Sizes} {at : Checked} {p q : Position} {c : List ℕ} {k : Caret} (e : Editable buf folds s at p q c k) where
  abbrev t : List ℕ
  t = take s.len buf

  new_size : s.len - (at.to - at.from) + length c ≡ length (new_text buf s p q c)
  new_size =
      let by_length_take_le = length-take-le s.len buf e.fits in
      let order = e.order in
      omega (
        arith,
        e.from_is,
        e.to_is,
        by_length_take_le,
        at_le e.second,
        replaced_length t (offset_of t p) (offset_of t q) c (omega (arith, at_le e.first)),
      )

  module _ {end : Position} (end_is : end ≡ end_of p c) where
    added_is : end.row - p.row ≡ row_count c - 1
    added_is = omega (arith, ap (λ (x : Position). x.row) end_is, end_rows p c)

    -- what the folds and the caret ask for
    pub folds_asked : Raises folds (3 * s.count) (end.row - p.row)
    folds_asked = rw added_is e.raises

    pub caret_asked : Fits k (record { from = p; to = q; end = end })
    caret_asked = subst (λ (x : Position). Fits k (record { from = p; to = q; end = x })) (sym end_is) e.follows

    pub made : {len n : ℕ} {caret : Caret} {buf' folds' : List ℕ} → len ≡ s.len - (at.to - at.from) + length c →
        Refilled buf s.len (replaced t at.from at.to c) buf' →
        FoldsMapped (mapped_row p.row q.row (end.row - p.row)) folds s.count n folds' →
        caret ≡ corrected_by k (record { from = p; to = q; end = end }) →
        MakesTo buf folds s p q c k
        (record { sizes = record { len = len; count = n }; caret = caret; change = record { from = p; to = q; end = end } }) buf' folds'
    made {len} {n} {caret} {buf'} {folds'} len_is text_is folds_are caret_is =
        let kept_folds_is : kept_folds (mapped_row p.row q.row (end.row - p.row)) (take (3 * s.count) folds) ≡ new_folds folds s p q c =
        ap (λ (x : ℕ). kept_folds (mapped_row p.row q.row x) (take (3 * s.count) folds)) added_is in
        let size_is : len ≡ length (new_text buf s p q c) = len_is ∙ new_size in
        let n_is : n ≡ length (new_folds folds s p q c) / 3 = omega (arith, folds_are.count, ap length kept_folds_is) in
        let caret_after_is : caret ≡ caret_after t p q c k =
        caret_is ∙ ap (λ (x : Position). corrected_by k (record { from = p; to = q; end = x })) end_is
        ∙ corrected_after t c p q k e.first e.second e.order e.caret in
        let replaced_is : replaced t at.from at.to c ≡ new_text buf s p q c = λ i. replaced t (e.from_is i) (e.to_is i) c in
        record {
          answer = λ i.
              record { sizes = record { len = size_is i; count = n_is i }; caret = caret_after_is i; change = record { from = p; to = q; end = end_is i } };
          text = text_is.left ∙ ap (refilled buf s.len) replaced_is;
          folds = folds_are.folds.left ∙ ap (refilled folds (3 * s.count)) kept_folds_is;
        }

-- the answer, by the number that refuses
module _ (buf folds : List ℕ) (s : Sizes) (p q : Position) (c : List ℕ) (k : Caret) (at : Checked) (is : at ≡ check_of buf folds s p q c (here k)) where
  pub number_is : at.refusal ≡ refusal_of buf folds s p q c k
  number_is = checked_number (take s.len buf) p q (refusal_of buf folds s p q c k) at is

  pub edit_refused : (at.refusal ≡ 0 → ⊥) → EditsTo buf folds s p q c k (Refused at.refusal) buf folds
  unfolding edited_by kept_by
  edit_refused n =
      let by_ne_eqb = ne_eqb at.refusal 0 n in
      record { answer = rw (← number_is, by_ne_eqb); text = rw (← number_is, by_ne_eqb); folds = rw (← number_is, by_ne_eqb) }

  pub edit_done : at.refusal ≡ 0 → {r : Left} {buf' folds' : List ℕ} → MakesTo buf folds s p q c k r buf' folds' →
      EditsTo buf folds s p q c k (Done r) buf' folds'
  unfolding edited_by kept_by
  edit_done z m =
      let by_eq_eqb = eq-eqb at.refusal 0 z in
      record {
        answer = rw (← number_is, by_eq_eqb) (ap Done m.answer);
        text = rw (← number_is, by_eq_eqb) m.text;
        folds = rw (← number_is, by_eq_eqb) m.folds;
      }
