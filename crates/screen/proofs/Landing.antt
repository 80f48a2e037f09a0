-- From a spot to the place at it, and from a place to its spot. Assumes nothing.
use Rattle.lists.proofs.Kit.{◌≡◌, sym, ap, ◌∙◌, List, Bool, ℕ, ◌-◌, ◌≤◌, ◌<◌, min, arith, length, Option, Some, None}
use Rattle.row_cells.specs.Offsets.{segment_index}
use Rattle.text.specs.Text.{row_count, row_at, row_len}
use Rattle.lists.specs.Rounds.{rounds}
use Rattle.visible_rows.specs.Visible.{toward}
use Rattle.screen_segments.specs.declared.Part.{Part}
use Rattle.screen_segments.specs.Parts.{segment_count, ahead_of, clamp_to, mode_of, lay_of, part_at, part_for}
use Rattle.screen_segments.proofs.Seats.{Laid, laid, seat_last, seat_within, start_within}
use Rattle.screen_segments.proofs.Finding.{few_segments}
use Rattle.text.specs.declared.Position.{Position}
use Rattle.screen.specs.declared.Seat.{Seat}
use Rattle.screen.specs.Screen.{step_screen}
use Rattle.screen.specs.Walks.{place_at, ahead_at, seat_at}
use Rattle.screen.specs.Keeping.{or_own, glided}
use Rattle.screen.proofs.ScreenRounds.{ahead_within, ahead_in, same_on, same_off, stuck}

module _ (w : ℕ → ℕ) (t : List ℕ) (word : Bool) (width : ℕ) (down : Bool) (r : ℕ) {line : List ℕ} (is : line ≡ row_at t r) where
  -- the segment of a spot, by the calls that find it
  module _ (a : ℕ) {count index : ℕ} {part : Part} (c : count ≡ segment_count (lay_of w word width line)) (i : index ≡ ahead_of down count a)
      (p : part ≡ part_for (lay_of w word width line) (length line) index) (h : a < segment_count (lay_of w word width (row_at t r))) where
    counted : count ≡ segment_count (lay_of w word width (row_at t r))
    counted = c ∙ ap (λ (x : List ℕ). segment_count (lay_of w word width x)) is

    pub spot_inside : a < count
    spot_inside = omega (arith, counted)

    there : ahead_of down (segment_count (lay_of w word width (row_at t r))) a < segment_count (lay_of w word width (row_at t r))
    there = ahead_within down _ a h

    part_is : part ≡ part_at (lay_of w word width (row_at t r)) (ahead_of down (segment_count (lay_of w word width (row_at t r))) a)
    part_is = p ∙ ap (λ (x : List ℕ). part_for (lay_of w word width x) (length x) index) is ∙
        ap (part_for (lay_of w word width (row_at t r)) (row_len t r)) (i ∙ ap (λ (n : ℕ). ahead_of down n a) counted) ∙
        ap (part_at (lay_of w word width (row_at t r))) (first_of (ahead_of down (segment_count (lay_of w word width (row_at t r))) a) there)
      where
        first_of : (k : ℕ) → k < segment_count (lay_of w word width (row_at t r)) → min k (segment_index (lay_of w word width (row_at t r)) (row_len t r)) ≡ k
        first_of k l = omega (arith, seat_last (laid w (mode_of word) width (row_at t r)) (row_len t r) (omega arith))

    pub part_starts : part.start ≤ row_len t r
    part_starts =
        let same_start = ap (λ (x : Part). x.start) part_is in
        rw same_start (start_within (laid w (mode_of word) width (row_at t r)) _ there)

    pub place_is : (offset col : ℕ) → col ≡ clamp_to part.start part.end offset (length line) →
        record { row = r; col = col } ≡ place_at t (lay_of w word width) down offset r a
    place_is offset col e = ap (λ (x : ℕ). record { row = r; col = x }) (e ∙ ap (λ (x : List ℕ). clamp_to part.start part.end offset (length x)) is ∙
        ap (λ (x : Part). clamp_to x.start x.end offset (row_len t r)) part_is)

  -- the segment of a place
  module _ (col : ℕ) {count : ℕ} {part : Part} (c : count ≡ segment_count (lay_of w word width line))
      (p : part ≡ part_for (lay_of w word width line) col (length line)) where
    seat_part : part ≡ part_at (lay_of w word width (row_at t r)) (segment_index (lay_of w word width (row_at t r)) col)
    seat_part = p ∙ ap (λ (x : List ℕ). part_for (lay_of w word width x) col (length x)) is ∙ ap (part_at (lay_of w word width (row_at t r)))
        (omega (arith, seat_within (laid w (mode_of word) width (row_at t r)) col, few_segments w word width (row_at t r)))

    seat_count : count ≡ segment_count (lay_of w word width (row_at t r))
    seat_count = c ∙ ap (λ (x : List ℕ). segment_count (lay_of w word width x)) is

    pub seat_inside : part.index < count
    seat_inside = omega (arith, seat_count, ap (λ (x : Part). x.index) seat_part, seat_within (laid w (mode_of word) width (row_at t r)) col)

    pub seat_made : (a o : ℕ) → a ≡ ahead_of down count part.index → o ≡ col - part.start →
        record { ahead = a; offset = o } ≡ seat_at t (lay_of w word width) down (record { row = r; col = col })
    seat_made a o e q =
        let by_seat_count = e ∙ ap (λ (n : ℕ). ahead_of down n part.index) seat_count ∙
        ap (λ (y : Part). ahead_of down (segment_count (lay_of w word width (row_at t r))) y.index) seat_part in
        let by_seat_part = q ∙ ap (λ (y : Part). col - y.start) seat_part in
        λ i. record { ahead = by_seat_count i; offset = by_seat_part i }

-- the rounds from a place are those from its spot, whatever offset is kept, and where nothing lies ahead the place stays
module _ (w : ℕ → ℕ) (t folds : List ℕ) (word : Bool) (width : ℕ) (down : Bool) (n : ℕ) (h : 0 < n) (p : Position) (offset : ℕ) {a : ℕ}
    (e : a ≡ ahead_at t (lay_of w word width) down p) where
  lays : (row : List ℕ) → Laid (length row) (lay_of w word width row)
  lays row = laid w (mode_of word) width row

  pub from_inside : a < segment_count (lay_of w word width (row_at t p.row))
  from_inside = rw e (ahead_in t folds (lay_of w word width) down 0 lays p)

  module _ {r : Position}
      (g : r ≡ rounds (step_screen t folds (lay_of w word width) down offset) n (place_at t (lay_of w word width) down offset p.row a)) where
    glides : r ≡ rounds (step_screen t folds (lay_of w word width) down offset) n
        (place_at t (lay_of w word width) down offset p.row (ahead_at t (lay_of w word width) down p))
    glides = g ∙ ap (λ (x : ℕ). rounds (step_screen t folds (lay_of w word width) down offset) n (place_at t (lay_of w word width) down offset p.row x)) e

    pub from_on : 0 < a → r ≡ rounds (step_screen t folds (lay_of w word width) down offset) n p
    from_on l = glides ∙ sym (same_on t folds (lay_of w word width) down offset lays p n h (omega (arith, e)))

    pub from_off : (x : ℕ) → a ≡ 0 → toward folds (row_count t) down p.row ≡ Some x → r ≡ rounds (step_screen t folds (lay_of w word width) down offset) n p
    from_off x z found = glides ∙ sym (same_off t folds (lay_of w word width) down offset lays p n x h (sym e ∙ z) found)

  pub from_stuck : a ≡ 0 → toward folds (row_count t) down p.row ≡ None → p ≡ rounds (step_screen t folds (lay_of w word width) down offset) n p
  from_stuck z none = sym (stuck t folds (lay_of w word width) down offset n p (sym e ∙ z) none)

-- the seat of a place gives the segments ahead and its own offset
module _ (t folds : List ℕ) (lay : List ℕ → List ℕ) (down : Bool) (p : Position) {s : Seat} (e : s ≡ seat_at t lay down p) where
  pub seat_ahead : s.ahead ≡ ahead_at t lay down p
  seat_ahead = ap (λ (x : Seat). x.ahead) e

  pub seat_near : s.offset ≤ p.col
  seat_near = omega (arith, ap (λ (x : Seat). x.offset) e)

  pub glided_made : (n : ℕ) (offset : Option ℕ) {kept : ℕ} {q : Position} → kept ≡ or_own offset s.offset →
      q ≡ rounds (step_screen t folds lay down kept) n p → record { place = q; offset = kept } ≡ glided t folds lay down n offset p
  glided_made n offset {kept} {q} k g = ap (λ (x : Position). record { place = x; offset = kept }) g ∙
      ap (λ (x : ℕ). record { place = rounds (step_screen t folds lay down x) n p; offset = x }) (k ∙ ap (λ (x : Seat). or_own offset x.offset) e)
