-- An accepted edit: the rows of the new text, that all of it is accepted, and that the buffers hold it. Assumes nothing.
use Rattle.lists.proofs.Kit.{◌≡◌, refl, List, ◌++◌, append_assoc, ℕ, ◌+◌, ◌-◌, ◌*◌, ◌≤◌, max, ℕ_discrete, arith, length, take, drop, take_at, eq-eqb, ne_eqb}
use Rattle.text.specs.Text.{row_count, row_len, position}
use Rattle.text.specs.declared.Position.{Position}
use Rattle.text.proofs.At.{at_le}
use Rattle.text.proofs.Rows.{rows_pos}
use Rattle.text.proofs.Before.{at_last_lem, same_row}
use Rattle.folds.proofs.Past.{folds_good}
use Rattle.positions.proofs.Checks.{inside_taken}
use Rattle.motions.specs.declared.Caret.{Caret}
use Rattle.motions.specs.Carets.{here}
use Rattle.bracket_walks.specs.Matching.{pos_of}
use Rattle.edit_places.specs.Replaced.{zeros, refilled}
use Rattle.edit_places.proofs.Parts.{replaced_length}
use Rattle.edit_folds.specs.Folds.{mapped_row}
use Rattle.edit_positions.specs.declared.Change.{Change}
use Rattle.edit_positions.specs.After.{offset_of, offset_after, text_after}
use Rattle.edit_positions.specs.Change.{end_of, behind}
use Rattle.edit_positions.proofs.Places.{Stays, pos_there}
use Rattle.edit_positions.proofs.Going.{stays_behind, moved_after}
use Rattle.edit_checks.specs.declared.Sizes.{Sizes}
use Rattle.edit_checks.specs.Checks.{check_of}
use Rattle.edits.specs.Edits.{new_text, new_folds, refusal_of}
use Rattle.edits.specs.Editable.{StandsIn}
use Rattle.edits.proofs.Making.{end_rows}
use Rattle.edits.proofs.Known.{editable, text_good, points_good}
use Rattle.edit_laws.specs.Laws.{Sound}
use Rattle.edit_laws.proofs.Texts.{replaced_good}
use Rattle.edit_laws.proofs.FoldLists.{kept_three, kept_most, folds_few, kept_good, folds_accepted}
use Rattle.edit_laws.proofs.RowMaps.{map_up, map_inside}

-- the row of a position behind the stretch
behind_row : (c : Change) (x : Position) → c.to.row ≤ x.row → (behind c x).row ≡ c.end.row + (x.row - c.to.row)
unfolding behind
behind_row c x h = go (ℕ_discrete x.row c.to.row)
  where
    go : Dec (x.row ≡ c.to.row) → (behind c x).row ≡ c.end.row + (x.row - c.to.row)
    go (yes e) = rw (eq-eqb x.row c.to.row e) (omega arith)
    go (no n) = rw (ne_eqb x.row c.to.row n)

-- how many rows there are then
module _ (t c : List ℕ) (p q : Position) (first : StandsIn t p) (second : StandsIn t q) (order : offset_of t p ≤ offset_of t q) where
  pub rows_after : p.row ≤ q.row → row_count (text_after t p q c) ≡ row_count t - (q.row - p.row) + (row_count c - 1)
  rows_after h =
      let offset = offset_of t p in
      let the_offset = offset_of t q in
      let last : Position = position (row_count t - 1) (row_len t (row_count t - 1)) in
      let stays : Stays t last (length t) = at_last_lem t in
      let change : Change = record { from = p; to = q; end = end_of p c } in
      let by_stays_behind = stays_behind t c p q offset the_offset first second order stays (at_le second) in
      let size_is : length (text_after t p q c) ≡ offset + length c + (length t - the_offset) = replaced_length t offset the_offset c (at_le first) in
      let rewritten = rw size_is at (at_last_lem (text_after t p q c)) in
      let behind_is : (behind change last).row ≡ row_count (text_after t p q c) - 1 = same_row by_stays_behind rewritten in
      let by_behind_row = behind_row change last (omega (arith, second.in_row)) in
      omega (arith, behind_is, by_behind_row, end_rows p c, second.in_row, rows_pos (text_after t p q c), rows_pos t)

module _ (buf fold : List ℕ) (s : Sizes) (p q : Position) (c : List ℕ) (k : Caret) (z : refusal_of buf fold s p q c k ≡ 0) where
  abbrev t : List ℕ
  t = take s.len buf

  abbrev new : List ℕ
  new = new_text buf s p q c

  abbrev kept : List ℕ
  kept = new_folds fold s p q c

  pub edit_sound : Sound buf fold s p q c k
  unfolding refilled
  edit_sound =
      let by_editable = editable buf fold s p q c k z (check_of buf fold s p q c (here k)) refl in
      let offset = offset_of t p in
      let the_offset = offset_of t q in
      let old = take (3 * s.count) fold in
      let mapped_row_lem = mapped_row p.row q.row (row_count c - 1) in
      let rows = rows_after t c p q by_editable.first by_editable.second by_editable.order by_editable.rows_order in
      let good = kept_good mapped_row_lem (row_count t) (row_count new) (λ x y h l. map_up p.row q.row (row_count c - 1) by_editable.rows_order x y h)
      (λ x h. map_inside p.row q.row (row_count c - 1) by_editable.rows_order (row_count t) (row_count new) by_editable.second.in_row rows x h) old
      (folds_good old (row_count t) by_editable.folds_good) in
      let few = folds_few old (row_count t) by_editable.folds_good in
      let three = kept_three mapped_row_lem old in
      let offset_after_lem = offset_after offset the_offset (length c) (offset_of t (here k)) in
      let there = pos_there new offset_after_lem
      (at_le (moved_after t c p q offset the_offset by_editable.first by_editable.second by_editable.order by_editable.caret)) in
      record {
        accepted = record {
          text_good = replaced_good t offset the_offset c (text_good buf fold s p q c k z) (points_good buf fold s p q c k z) by_editable.new_brief;
          folds_good = folds_accepted kept (row_count new) three (omega (arith, kept_most mapped_row_lem old, few.1)) good;
          inside = inside_taken new (pos_of new offset_after_lem) (record { in_row = there.in_row; in_col = there.in_col });
        };
        text_held = rw (append_assoc new (zeros (s.len - length new)) (drop (max s.len (length new)) buf))
            (take_at new (zeros (s.len - length new) ++ drop (max s.len (length new)) buf) (length new) refl);
        folds_held = rw (append_assoc kept (zeros (3 * s.count - length kept)) (drop (max (3 * s.count) (length kept)) fold), ← three)
            (take_at kept (zeros (3 * s.count - length kept) ++ drop (max (3 * s.count) (length kept)) fold) (length kept) refl);
      }
