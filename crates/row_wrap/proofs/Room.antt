-- Segments written to the front of lent room, and the answer that goes with it. Assumes nothing.
use Rattle.lists.proofs.Kit.{◌≡◌, refl, sym, ap, ◌∙◌, List, [], ◌∷◌, ◌++◌, Bool, true, false, ℕ, zero, suc, ◌+◌, ◌/◌, ◌≤◌, ◌<◌, add-one, arith, length, get_or}
use Rattle.lists.proofs.Kit.{take, drop, set, length-set, set_at, take-suc, append_snoc, length-take-le, take_all, drop-cons, lt-ltb, le-ltb, eq-eqb, ne_eqb}
use Rattle.chars.specs.White.{is_white}
use Rattle.widths.specs.declared.Ambiguous.{Ambiguous}
use Rattle.widths.specs.Widths.{width_as}
use Rattle.row_check.specs.Row.{row_refusal}
use Rattle.row_wrap.specs.declared.Wrap.{Wrap}
use Rattle.row_wrap.specs.declared.Segments.{Segments}
use Rattle.row_wrap.specs.declared.Segments.TheVariants.{Count, Refused}
use Rattle.row_wrap.specs.Segments.{segments_from}
use Rattle.row_wrap.specs.Modes.{is_word, is_whole, segments_of}
use Rattle.row_wrap.specs.Room.{count_of, filled, room_refusal, Fitted}
use Rattle.row_wrap.specs.Calls.{wrap_refusal, Wraps}

-- the first `at` numbers of l stand in front, and the rest of the room is as it was
pub record FilledTo (l room₀ : List ℕ) (at : ℕ) (room : List ℕ) : Type 0 where
  pub size : length room ≡ length room₀
  pub left : room ≡ take at l ++ drop at room₀

pub filled_start : (l room : List ℕ) → FilledTo l room 0 room
filled_start l room = record { size = refl; left = refl }

filled_one : {l room₀ room : List ℕ} {at v : ℕ} → FilledTo l room₀ at room → at < length l → length l ≤ length room₀ →
    get_or l at 0 ≡ v → FilledTo l room₀ (at + 1) (set room at v)
filled_one {l} {room₀} {room} {at} {v} so_far h fit e =
    let size_is : length (take at l) ≡ at = length-take-le at l (omega arith) in
    let seam = set_at (take at l) (get_or room₀ at 0) (drop (suc at) room₀) (get_or l at 0) at size_is in
    let to : set room at v ≡ take (at + 1) l ++ drop (at + 1) room₀ =
    rw (so_far.left, ← e, add-one, drop-cons room₀ at 0 (omega arith), seam, take-suc l at 0 h)
    (sym (append_snoc (take at l) (get_or l at 0) (drop (suc at) room₀))) in
    record { size = length-set room at v ∙ so_far.size; left = to }

-- a pair is written, and all are
module _ {l room₀ room : List ℕ} {at : ℕ} (so_far : FilledTo l room₀ at room) where
  pub filled_two_lem : {a b : ℕ} → at + 2 ≤ length l → length l ≤ length room₀ → get_or l at 0 ≡ a → get_or l (at + 1) 0 ≡ b →
      FilledTo l room₀ (at + 2) (set (set room at a) (at + 1) b)
  filled_two_lem {a} {b} h fit e f =
      let at_plus_two : at + 2 ≡ at + 1 + 1 = omega arith in
      rw at_plus_two (filled_one (filled_one so_far (omega arith) fit e) (omega arith) fit f)

  pub filled_end : at ≡ length l → room ≡ filled l room₀
  filled_end e = so_far.left ∙ rw e (ap (λ (f : List ℕ). f ++ drop (length l) room₀) (take_all (length l) l (omega arith)))

pub filled_pair : (a b : ℕ) (room : List ℕ) → 2 ≤ length room → set (set room 0 a) 1 b ≡ filled (a ∷ b ∷ []) room
filled_pair a b [] h = absurd (omega arith)
filled_pair a b (x ∷ []) h = absurd (omega arith)
filled_pair a b (x ∷ y ∷ room) h = refl

count_zero : {n c : ℕ} → n ≡ 0 → Count c ≡ count_of n c
unfolding count_of
count_zero e = rw e

refused_is : (n c : ℕ) → (n ≡ 0 → ⊥) → Refused n ≡ count_of n c
unfolding count_of
refused_is zero c k = absurd (k refl)
refused_is (suc n) c k = refl

room_short : (segments room : List ℕ) → length room < length segments → room_refusal segments room ≡ 9
unfolding room_refusal
room_short segments room h = rw (lt-ltb (length room) (length segments) h)

room_enough : (segments room : List ℕ) → length segments ≤ length room → room_refusal segments room ≡ 0
unfolding room_refusal
room_enough segments room h = rw (le-ltb (length room) (length segments) h)

pub fitted_refused : {segments room : List ℕ} → length room < length segments → Fitted segments room (Refused 9) room
fitted_refused {segments} {room} h = rw (room_short segments room h) (record { answer = refused_is 9 _ (λ e. omega arith); left = refl })

pub fitted_count : {segments room room' : List ℕ} {n : ℕ} → length segments ≤ length room → n ≡ length segments / 2 → room' ≡ filled segments room →
    Fitted segments room (Count n) room'
fitted_count {segments} {room} {room'} {n} h e k = rw (room_enough segments room h) (record { answer = rw e (count_zero refl); left = k })

-- a row that is accepted leaves the room to be looked at; one that is not gives its own number
wrap_room : (row segments room : List ℕ) → row_refusal row ≡ 0 → wrap_refusal row segments room ≡ room_refusal segments room
unfolding wrap_refusal
wrap_room row segments room e = rw (eq-eqb (row_refusal row) 0 e)

wrap_row : (row segments room : List ℕ) → (row_refusal row ≡ 0 → ⊥) → wrap_refusal row segments room ≡ row_refusal row
unfolding wrap_refusal
wrap_row row segments room n = rw (ne_eqb (row_refusal row) 0 n)

module _ (a : Ambiguous) (mode : Wrap) (width : ℕ) (row : List ℕ) {f : ℕ} (given : f ≡ row_refusal row) where
  pub wrapped_refused : (room : List ℕ) → (f ≡ 0 → ⊥) → Wraps a mode width row room (Refused f) room
  wrapped_refused room n =
      let row_refusal_not : row_refusal row ≡ 0 → ⊥ = λ e. n (given ∙ e) in
      rw (wrap_row row (segments_of (width_as a) is_white mode width row) room row_refusal_not, ← given)
      (record { answer = refused_is f _ n; left = rw (ne_eqb f 0 n) })

  pub wrapped_is :
      {segments room room' : List ℕ} {r : Segments} → f ≡ 0 → segments_of (width_as a) is_white mode width row ≡ segments → Fitted segments room r room' →
      Wraps a mode width row room r room'
  wrapped_is {segments} {room} z e fit = rw (e, wrap_room row segments room (sym given ∙ z)) fit

-- which segments a mode gives
module _ (w : ℕ → ℕ) (white : ℕ → Bool) (mode : Wrap) (width : ℕ) (row : List ℕ) where
  pub segments_whole : is_whole mode width (length row) ≡ true → segments_of w white mode width row ≡ 0 ∷ length row ∷ []
  unfolding segments_of
  segments_whole e = rw e

  pub segments_broken : is_whole mode width (length row) ≡ false → segments_of w white mode width row ≡ segments_from w white (is_word mode) width 0 0 row
  unfolding segments_of
  segments_broken e = rw e
