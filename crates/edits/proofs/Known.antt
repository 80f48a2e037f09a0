-- What is known of an edit that its checks do not refuse. Assumes nothing.
use Rattle.lists.proofs.Kit.{◌≡◌, refl, ap, List, [], ◌∷◌, Bool, true, false, cond, ◌||◌, ℕ, ◌+◌, ◌-◌, ◌*◌, ◌/◌, ◌≤◌, arith, length, take, length-take-le, ltb}
use Rattle.lists.proofs.Kit.{ltb-false}
use Rattle.text_check.specs.Accept.{text_refusal}
use Rattle.text_check.proofs.Accepted.{accepted_short}
use Rattle.text.specs.Text.{row_count}
use Rattle.text.specs.declared.Position.{Position}
use Rattle.folds.specs.Folds.{fold_refusal}
use Rattle.positions.specs.Positions.{lowest, position_refusal}
use Rattle.positions.proofs.Lowest.{lowest_none}
use Rattle.positions.proofs.Checks.{inside_at}
use Rattle.motions.specs.declared.Caret.{Caret}
use Rattle.motions.specs.Carets.{here}
use Rattle.edit_positions.specs.After.{offset_of, text_after}
use Rattle.edit_checks.specs.declared.Checked.{Checked}
use Rattle.edit_checks.specs.declared.Sizes.{Sizes}
use Rattle.edit_checks.specs.Refusals.{lower, held_refusal, held_folds, stretch_refusal, room_refusal, edit_refusal}
use Rattle.edit_checks.specs.Checks.{check_of}
use Rattle.edit_checks.proofs.Numbers.{lower_none}
use Rattle.edit_checks.proofs.Spots.{inside_stays, stretches, checked_at}
use Rattle.edits.specs.Editable.{Editable}
use Rattle.text.proofs.Rows.{rows_pos}
use Rattle.text.proofs.Parts.{count_le}
use Rattle.edit_places.proofs.Parts.{replaced_length}
use Rattle.edits.proofs.Small.{neither}
use Rattle.edits.proofs.Making.{near, rows_in_order, folds_raise, fits_caret}

-- what each check says where it does not refuse
pub held_none : (buf : List ℕ) (len : ℕ) → held_refusal buf len ≡ 0 → (len ≤ length buf) × (text_refusal (take len buf) ≡ 0)
unfolding held_refusal
held_none buf len z = go (ltb (length buf) len) refl z
  where
    go : (b : Bool) → ltb (length buf) len ≡ b → cond b 1 (text_refusal (take len buf)) ≡ 0 → (len ≤ length buf) × (text_refusal (take len buf) ≡ 0)
    go true e h = absurd (omega (arith, h))
    go false e h = (ltb-false _ _ e, h)

pub folds_none : (buf : List ℕ) (count rows : ℕ) → held_folds buf count rows ≡ 0 → (count ≤ length buf / 3) × (fold_refusal (take (3 * count) buf) rows ≡ 0)
unfolding held_folds
folds_none buf count rows z = go (ltb (length buf / 3) count) refl z
  where
    go : (b : Bool) → ltb (length buf / 3) count ≡ b → cond b 5 (fold_refusal (take (3 * count) buf) rows) ≡ 0 →
        (count ≤ length buf / 3) × (fold_refusal (take (3 * count) buf) rows ≡ 0)
    go true e h = absurd (omega (arith, h))
    go false e h = (ltb-false _ _ e, h)

pub room_none : (room n : ℕ) → room_refusal room n ≡ 0 → (n ≤ room) × (n ≤ 1048576)
unfolding room_refusal
room_none room n z = go (ltb room n || ltb 1048576 n) refl z
  where
    go : (b : Bool) → (ltb room n || ltb 1048576 n) ≡ b → ◌≡◌ {A = ℕ} (cond b 12 0) 0 → (n ≤ room) × (n ≤ 1048576)
    go true e h = absurd (omega (arith, h))
    go false e h =
        let by_neither = neither (ltb room n) (ltb 1048576 n) e in
        (ltb-false _ _ by_neither.0, ltb-false _ _ by_neither.1)

module _ (buf folds : List ℕ) (s : Sizes) (p q : Position) (c : List ℕ) (k : Caret) (z : edit_refusal buf folds s p q c (here k) ≡ 0) where
  abbrev t : List ℕ
  t = take s.len buf

  abbrev E : List ℕ
  E = room_refusal (length buf) (length (text_after t p q c)) ∷ []

  abbrev D : List ℕ
  D = stretch_refusal t p q ∷ E

  abbrev C : List ℕ
  C = held_folds folds s.count (row_count t) ∷ D

  one : (lower (held_refusal buf s.len) (text_refusal c) ≡ 0) × (lowest (position_refusal t (here k) ∷ C) ≡ 0)
  unfolding edit_refusal
  one = lowest_none (lower (held_refusal buf s.len) (text_refusal c)) (position_refusal t (here k) ∷ C) z

  two : (position_refusal t (here k) ≡ 0) × (lowest C ≡ 0)
  two = lowest_none (position_refusal t (here k)) C one.1

  three : (held_folds folds s.count (row_count t) ≡ 0) × (lowest D ≡ 0)
  three = lowest_none (held_folds folds s.count (row_count t)) D two.1

  four : (stretch_refusal t p q ≡ 0) × (lowest E ≡ 0)
  four = lowest_none (stretch_refusal t p q) E three.1

  five : room_refusal (length buf) (length (text_after t p q c)) ≡ 0
  five = (lowest_none (room_refusal (length buf) (length (text_after t p q c))) [] four.1).0

  texts : (held_refusal buf s.len ≡ 0) × (text_refusal c ≡ 0)
  texts = lower_none (held_refusal buf s.len) (text_refusal c) one.0

  pub text_good : text_refusal t ≡ 0
  text_good = (held_none buf s.len texts.0).1

  pub points_good : text_refusal c ≡ 0
  points_good = texts.1

  pub editable : (at : Checked) → at ≡ check_of buf folds s p q c (here k) → Editable buf folds s at p q c k
  editable at e =
      let by_held_none = held_none buf s.len texts.0 in
      let by_length_take_le = length-take-le s.len buf by_held_none.0 in
      let by_stretches = stretches t p q four.0 in
      let by_folds_none = folds_none folds s.count (row_count t) three.0 in
      let by_room_none = room_none (length buf) (length (text_after t p q c)) five in
      let by_checked_at = checked_at t p q (edit_refusal buf folds s p q c (here k)) at e z in
      let offset_is : at.from ≡ offset_of t p = ap (λ (y : Checked). y.from) by_checked_at in
      let same_to : at.to ≡ offset_of t q = ap (λ (y : Checked). y.to) by_checked_at in
      let size_at_most : length c ≤ 1048576 = accepted_short c points_good in
      let by_inside_stays = inside_stays t (here k) (inside_at t (here k) two.0) in
      let its_order = by_stretches.order in
      let within = by_stretches.within in
      let new_size : s.len - (at.to - at.from) + length c ≡ length (text_after t p q c) =
      omega (arith, offset_is, same_to, by_length_take_le, replaced_length t (offset_of t p) (offset_of t q) c (omega arith)) in
      record {
        fits = by_held_none.0;
        brief = omega (arith, by_length_take_le, accepted_short t by_held_none.1);
        points_brief = size_at_most;
        from_is = offset_is;
        to_is = same_to;
        rows_is = ap (λ (y : Checked). y.rows) by_checked_at;
        order = by_stretches.order;
        first = by_stretches.first;
        second = by_stretches.second;
        caret = by_inside_stays;
        room = by_room_none.0;
        new_brief = by_room_none.1;
        folds_fit = omega (arith, by_folds_none.0);
        first_near = near t p by_stretches.first (omega (arith, accepted_short t by_held_none.1));
        second_row = (near t q by_stretches.second (omega (arith, accepted_short t by_held_none.1))).row_near;
        rows_order = rows_in_order t p q by_stretches.first by_stretches.second by_stretches.order;
        stretch_order = omega (arith, offset_is, same_to, by_stretches.order);
        stretch_within = omega (arith, same_to, by_stretches.within, by_length_take_le);
        new_fits = omega (arith, new_size, by_room_none.0);
        raises = folds_raise folds (row_count t) s.count (row_count c - 1) (rows_pos t) by_folds_none.1 (omega (arith, by_folds_none.0))
            (omega (arith, count_le t, count_le c, size_at_most, accepted_short t by_held_none.1));
        follows = fits_caret t c p q k by_stretches.first (near t (here k) by_inside_stays (omega (arith, accepted_short t by_held_none.1)))
            (near t p by_stretches.first (omega (arith, accepted_short t by_held_none.1))) size_at_most;
        folds_good = by_folds_none.1;
      }
