-- The edit itself with its table, and the answer by the number that refuses. Assumes nothing.
use Rattle.lists.proofs.Kit.{◌≡◌, sym, ap, ◌∙◌, List, ℕ, arith, length, take, eq-eqb, ne_eqb}
use Rattle.text.specs.Text.{row_count, content_rows}
use Rattle.text.specs.declared.Position.{Position}
use Rattle.motions.specs.declared.Caret.{Caret}
use Rattle.edit_places.specs.Replaced.{replaced, refilled, Refilled}
use Rattle.edit_checks.specs.declared.Checked.{Checked}
use Rattle.edit_checks.specs.declared.Sizes.{Sizes}
use Rattle.edits.specs.declared.Left.{Left}
use Rattle.edits.specs.Edits.{new_text, kept_by, refusal_of}
use Rattle.edits.specs.Editable.{Editable, MakesTo}
use Rattle.row_table.specs.Table.{row_starts}
use Rattle.edit_starts.specs.Moved.{kept_starts}
use Rattle.edit_starts.proofs.Kept.{starts_replaced}
use Rattle.edit_rows.specs.declared.Kept.{Kept}
use Rattle.edit_rows.specs.declared.Rows.{Rows}
use Rattle.edit_rows.specs.declared.EditedRows.TheVariants.{Done, Refused}
use Rattle.edit_rows.specs.Rows.{rows_refusal, refusal_with, answered_by, KeepsTo}
use Rattle.edit_rows.specs.Known.{Tabled, Counted, MakesRows}
use Rattle.edit_rows.proofs.Refills.{refilled_holds, refilled_room}
use Rattle.edit_rows.proofs.Tables.{first_there, second_there}

module _ {buf fold table : List ℕ} {s : Sizes} {at : Checked} {p q : Position} {c : List ℕ} {k : Caret} {rows : Rows} {left : Left} {buf' folds' : List ℕ}
    (e : Editable buf fold s at p q c k) (d : Tabled (take s.len buf) table (new_text buf s p q c) rows)
    (m : MakesTo buf fold s p q c k left buf' folds') where
  abbrev t : List ℕ
  t = take s.len buf

  new_length : left.sizes.len ≡ length (new_text buf s p q c)
  new_length = ap (λ (l : Left). l.sizes.len) m.answer

  new_held : take left.sizes.len buf' ≡ new_text buf s p q c
  new_held = ap (take left.sizes.len) m.text ∙ refilled_holds buf s.len (new_text buf s p q c) left.sizes.len (sym new_length)

  -- what the count of the rows with content asks for
  pub content_asked : Counted buf' left.sizes.len rows.after
  content_asked =
      record {
        fits = omega (arith, new_length, ap length m.text, refilled_room buf s.len (new_text buf s p q c));
        brief = omega (arith, new_length, e.new_brief);
        rows_are = d.after_is ∙ ap row_count (sym new_held);
      }

  pub made_rows : {content : ℕ} {starts' : List ℕ} → content ≡ content_rows (take left.sizes.len buf') →
      Refilled table rows.before (kept_starts (take rows.before table) p.row q.row at.from at.to c) starts' →
      MakesRows buf fold table s p q c k (record { left = left; content = content }) buf' folds' starts'
  made_rows {content} {starts'} count f =
      let content_is : content ≡ content_rows (new_text buf s p q c) = count ∙ ap content_rows new_held in
      let held : take rows.before table ≡ row_starts t = rw d.before_is d.held in
      let new : kept_starts (take rows.before table) p.row q.row at.from at.to c ≡ row_starts (new_text buf s p q c) =
      rw held (starts_replaced t (first_there e) (second_there e) e.stretch_order c) ∙ (λ i. row_starts (replaced t (e.from_is i) (e.to_is i) c)) in
      record {
        answer = λ i. record { left = m.answer i; content = content_is i };
        text = m.text;
        folds = m.folds;
        starts = f.left ∙ (λ i. refilled table (d.before_is i) (new i));
      }

-- the answer, by the number that refuses
module _ (buf fold table : List ℕ) (s : Sizes) (content : ℕ) (p q : Position) (c : List ℕ) (k : Caret) where
  refused : {g : ℕ} → refusal_with buf fold table s content p q c k ≡ g → (g ≡ 0 → ⊥) → KeepsTo buf fold table s content p q c k (Refused g) buf fold table
  unfolding answered_by kept_by
  refused {g} number n =
      let by_ne_eqb = ne_eqb g 0 n in
      record { answer = rw (number, by_ne_eqb); text = rw (number, by_ne_eqb); folds = rw (number, by_ne_eqb); starts = rw (number, by_ne_eqb) }

  number_edit : (refusal_of buf fold s p q c k ≡ 0 → ⊥) → refusal_with buf fold table s content p q c k ≡ refusal_of buf fold s p q c k
  unfolding refusal_with
  number_edit n = rw (ne_eqb (refusal_of buf fold s p q c k) 0 n)

  number_table : refusal_of buf fold s p q c k ≡ 0 →
      refusal_with buf fold table s content p q c k ≡ rows_refusal (take s.len buf) (new_text buf s p q c) table content
  unfolding refusal_with
  number_table z = rw (eq-eqb (refusal_of buf fold s p q c k) 0 z)

  pub rows_by_edit : {f : ℕ} → f ≡ refusal_of buf fold s p q c k → (f ≡ 0 → ⊥) → KeepsTo buf fold table s content p q c k (Refused f) buf fold table
  rows_by_edit e n = refused (number_edit (λ z. n (e ∙ z)) ∙ sym e) n

  module _ (z : refusal_of buf fold s p q c k ≡ 0) {g : ℕ} (e : g ≡ rows_refusal (take s.len buf) (new_text buf s p q c) table content) where
    pub rows_by_table : (g ≡ 0 → ⊥) → KeepsTo buf fold table s content p q c k (Refused g) buf fold table
    rows_by_table n = refused (number_table z ∙ sym e) n

    pub rows_done : g ≡ 0 → {r : Kept} {buf' folds' starts' : List ℕ} → MakesRows buf fold table s p q c k r buf' folds' starts' →
        KeepsTo buf fold table s content p q c k (Done r) buf' folds' starts'
    unfolding answered_by kept_by
    rows_done y m =
        let number : refusal_with buf fold table s content p q c k ≡ 0 = number_table z ∙ sym e ∙ y in
        record { answer = rw number (ap Done m.answer); text = rw number m.text; folds = rw number m.folds; starts = rw number m.starts }
