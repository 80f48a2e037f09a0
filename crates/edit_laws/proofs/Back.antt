-- A delete of what an insert put in takes it back: the text, its folds, and a caret's position. Assumes nothing.
use Rattle.lists.proofs.Kit.{◌≡◌, sym, ap, ◌∙◌, List, [], ℕ, ◌+◌, ◌-◌, ◌<◌, dec_lt, arith, length, take, drop, drop_of_length-le, length-take-le, lt-ltb, le-ltb}
use Rattle.text.specs.Text.{row_count}
use Rattle.text.specs.declared.Position.{Position}
use Rattle.text.proofs.At.{at_le}
use Rattle.text.proofs.Rows.{rows_nil}
use Rattle.folds.specs.Folds.{fold_refusal}
use Rattle.bracket_walks.specs.Matching.{pos_of}
use Rattle.edit_places.specs.Replaced.{replaced}
use Rattle.edit_places.proofs.Replaces.{replaced_back}
use Rattle.edit_folds.specs.Folds.{mapped_row, kept_folds}
use Rattle.edit_positions.specs.After.{offset_of, offset_after, text_after}
use Rattle.edit_positions.specs.Change.{end_of}
use Rattle.edit_positions.proofs.Places.{pos_of_lem, pos_there}
use Rattle.edit_positions.proofs.Going.{stays_before, stays_end, moved_after}
use Rattle.edits.specs.Editable.{StandsIn}
use Rattle.edits.proofs.Making.{end_rows}
use Rattle.edit_laws.specs.Laws.{TakenBack}
use Rattle.edit_laws.proofs.FoldLists.{folds_few}
use Rattle.edit_laws.proofs.RowMaps.{folds_taken_back}

-- an offset there and back
after_back : (a n x : ℕ) → offset_after a (a + n) 0 (offset_after a a n x) ≡ x
unfolding offset_after
after_back a n x = go (dec_lt x a)
  where
    go : Dec (x < a) → offset_after a (a + n) 0 (offset_after a a n x) ≡ x
    go (yes h) = rw (lt-ltb x a h, lt-ltb x a h)
    go (no h) =
        let difference_is : x - (a - a) + n ≡ x + n = omega arith in
        rw (le-ltb x a (omega arith), difference_is, le-ltb (x + n) a (omega arith), le-ltb (x + n) (a + n) (omega arith)) (omega arith)

module _ (t folds c : List ℕ) (p x : Position) (at : StandsIn t p) (caret : StandsIn t x) (good : fold_refusal folds (row_count t) ≡ 0) where
  abbrev a : ℕ
  a = offset_of t p

  abbrev new : List ℕ
  new = text_after t p p c

  from_is : offset_of new p ≡ a
  from_is = sym (stays_before t c p p a a at at (omega arith) at (omega arith)).offset

  to_is : offset_of new (end_of p c) ≡ a + length c
  to_is = sym (stays_end t c p p a a at at (omega arith)).offset

  back : text_after new p (end_of p c) [] ≡ t
  back =
      let by_length_take_le = length-take-le a t (at_le at) in
      let none : drop a (take a t) ≡ [] = drop_of_length-le (take a t) {i = a} (omega arith) in
      (λ i. replaced new (from_is i) (to_is i) []) ∙ ap (replaced new a (a + length c)) (sym none) ∙ replaced_back t a a c (omega arith) (at_le at)

  pub taken_back : TakenBack t folds p c x
  taken_back =
      let by_moved_after = moved_after t c p p a a at at (omega arith) caret in
      let offset_after_lem = offset_after a a (length c) (offset_of t x) in
      let there : offset_of new (pos_of new offset_after_lem) ≡ offset_after_lem = sym (pos_there new offset_after_lem (at_le by_moved_after)).offset in
      let difference = row_count c - 1 in
      let none : row_count [] - 1 ≡ 0 = omega (arith, ap length rows_nil) in
      record {
        text_back = back;
        folds_back = (λ i. kept_folds (mapped_row p.row (end_rows p c i) (none i)) (kept_folds (mapped_row p.row p.row difference) folds))
            ∙ folds_taken_back p.row difference folds (folds_few folds (row_count t) good).0;
        caret_back = (λ i. pos_of (back i) (offset_after (from_is i) (to_is i) 0 (there i))) ∙ ap (pos_of t) (after_back a (length c) (offset_of t x))
            ∙ pos_of_lem caret;
      }
