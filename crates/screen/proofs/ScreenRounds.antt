-- The rounds of a screen move: within a row k rounds go k segments, so that a row is walked once, and then into the next visible row.
-- A place is kept by its row and how many segments lie ahead of it in the row. Assumes nothing.
use Rattle.lists.proofs.Kit.{◌≡◌, refl, sym, ap, ◌∙◌, List, Bool, true, false, ℕ, zero, suc, ◌+◌, ◌-◌, ◌≤◌, ◌<◌, arith, length, lt-ltb, le-ltb, Some, None}
use Rattle.text.specs.Text.{row_count, row_at}
use Rattle.text.specs.declared.Position.{Position}
use Rattle.lists.specs.Rounds.{rounds}
use Rattle.visible_rows.specs.Visible.{toward, shift}
use Rattle.screen_segments.specs.Parts.{segment_count, ahead_of}
use Rattle.screen.specs.Screen.{on_segment, entered, seat_of, step_screen}
use Rattle.screen.specs.Walks.{place_at, ahead_at}
use Rattle.lists.proofs.Rounds.{rounds_on, rounds_still, rounds_add}
use Rattle.screen_segments.proofs.Seats.{Laid, seat_is, seat_within}

-- the segments ahead tell the segment, and the other way round
pub ahead_within : (down : Bool) (n a : ℕ) → a < n → ahead_of down n a < n
ahead_within true n a h = omega arith
ahead_within false n a h = h

ahead_back : (down : Bool) (n a : ℕ) → a < n → ahead_of down n (ahead_of down n a) ≡ a
ahead_back true n a h = omega arith
ahead_back false n a h = refl

ahead_next : (down : Bool) (n a : ℕ) → 0 < a → a < n → shift down (ahead_of down n a) 1 ≡ ahead_of down n (a - 1)
ahead_next true n a p h = omega arith
ahead_next false n a p h = refl

abbrev pub count_of : List ℕ → (List ℕ → List ℕ) → ℕ → ℕ
count_of t lay row = segment_count (lay (row_at t row))

-- the place in the same segment that keeps the offset
abbrev pub own_place : List ℕ → (List ℕ → List ℕ) → Bool → ℕ → Position → Position
own_place t lay down offset p = place_at t lay down offset p.row (ahead_at t lay down p)

module _ (t folds : List ℕ) (lay : List ℕ → List ℕ) (down : Bool) (offset : ℕ) where
  -- a round, by the segments ahead
  round_on : (p : Position) → 0 < ahead_at t lay down p → step_screen t folds lay down offset p ≡ on_segment t lay offset p.row (shift down (seat_of t lay p) 1)
  unfolding step_screen
  round_on p h = rw (lt-ltb 0 (ahead_at t lay down p) h)

  round_off : (p : Position) → ahead_at t lay down p ≡ 0 → step_screen t folds lay down offset p ≡
      entered t lay down offset p (toward folds (row_count t) down p.row)
  unfolding step_screen
  round_off p e = rw (le-ltb 0 (ahead_at t lay down p) (omega arith))

  -- no segment is ahead and no row: the place stays
  pub stuck : (n : ℕ) (p : Position) → ahead_at t lay down p ≡ 0 → toward folds (row_count t) down p.row ≡ None →
      rounds (step_screen t folds lay down offset) n p ≡ p
  stuck n p e none = rounds_still (step_screen t folds lay down offset) n p (round_off p e ∙ ap (entered t lay down offset p) none)

  module _ (lays : (row : List ℕ) → Laid (length row) (lay row)) where
    seat_at_lem : (row a : ℕ) → a < count_of t lay row → seat_of t lay (place_at t lay down offset row a) ≡ ahead_of down (count_of t lay row) a
    seat_at_lem row a h = seat_is (lays (row_at t row)) (ahead_of down (count_of t lay row) a) offset (ahead_within down (count_of t lay row) a h)

    ahead_at_lem : (row a : ℕ) → a < count_of t lay row → ahead_at t lay down (place_at t lay down offset row a) ≡ a
    ahead_at_lem row a h = ap (ahead_of down (count_of t lay row)) (seat_at_lem row a h) ∙ ahead_back down (count_of t lay row) a h

    -- a place moves as the one in its segment does that keeps the offset, unless it is stuck
    pub ahead_in : (p : Position) → ahead_at t lay down p < count_of t lay p.row
    ahead_in p = ahead_within down (count_of t lay p.row) (seat_of t lay p) (seat_within (lays (row_at t p.row)) p.col)

    module _ (p : Position) where
      own_ahead : ahead_at t lay down (own_place t lay down offset p) ≡ ahead_at t lay down p
      own_ahead = ahead_at_lem p.row (ahead_at t lay down p) (ahead_in p)

      own_seat : seat_of t lay (own_place t lay down offset p) ≡ seat_of t lay p
      own_seat = seat_at_lem p.row (ahead_at t lay down p) (ahead_in p) ∙
          ahead_back down (count_of t lay p.row) (seat_of t lay p) (seat_within (lays (row_at t p.row)) p.col)

      pub same_on : (n : ℕ) → 0 < n → 0 < ahead_at t lay down p →
          rounds (step_screen t folds lay down offset) n p ≡ rounds (step_screen t folds lay down offset) n (own_place t lay down offset p)
      same_on n h l = rounds_on (step_screen t folds lay down offset) n p h ∙ ap (rounds (step_screen t folds lay down offset) (n - 1))
          (round_on p l ∙ ap (λ (j : ℕ). on_segment t lay offset p.row (shift down j 1)) (sym own_seat) ∙
          sym (round_on (own_place t lay down offset p) (omega (arith, own_ahead)))) ∙
          sym (rounds_on (step_screen t folds lay down offset) n (own_place t lay down offset p) h)

      pub same_off : (n x : ℕ) → 0 < n → ahead_at t lay down p ≡ 0 → toward folds (row_count t) down p.row ≡ Some x →
          rounds (step_screen t folds lay down offset) n p ≡ rounds (step_screen t folds lay down offset) n (own_place t lay down offset p)
      same_off n x h e found = rounds_on (step_screen t folds lay down offset) n p h ∙ ap (rounds (step_screen t folds lay down offset) (n - 1))
          (round_off p e ∙ ap (entered t lay down offset p) found ∙
          sym (round_off (own_place t lay down offset p) (own_ahead ∙ e) ∙ ap (entered t lay down offset (own_place t lay down offset p)) found)) ∙
          sym (rounds_on (step_screen t folds lay down offset) n (own_place t lay down offset p) h)

    -- k rounds within a row are k segments
    pub rounds_in : (k row a : ℕ) → k ≤ a → a < count_of t lay row →
        rounds (step_screen t folds lay down offset) k (place_at t lay down offset row a) ≡ place_at t lay down offset row (a - k)
    unfolding rounds
    rounds_in zero row a l h = ap (place_at t lay down offset row) (omega arith)
    rounds_in (suc k) row a l h =
        let one =
        round_on (place_at t lay down offset row a) (omega (arith, ahead_at_lem row a h)) ∙
        ap (on_segment t lay offset row) (ap (λ (j : ℕ). shift down j 1) (seat_at_lem row a h) ∙ ahead_next down (count_of t lay row) a (omega arith) h) in
        ap (rounds (step_screen t folds lay down offset) k) one ∙
        rounds_in k row (a - 1) (omega arith) (omega arith) ∙
        ap (place_at t lay down offset row) (omega arith)

    -- and one more goes into the next visible row, where there is one
    module _ (row a left : ℕ) (h : a < count_of t lay row) (l : a < left) where
      to_edge : rounds (step_screen t folds lay down offset) left (place_at t lay down offset row a) ≡
          rounds (step_screen t folds lay down offset) (left - a) (place_at t lay down offset row 0)
      to_edge =
          let all : left ≡ a + (left - a) = omega arith in
          let none : a - a ≡ 0 = omega arith in
          ap (λ (m : ℕ). rounds (step_screen t folds lay down offset) m (place_at t lay down offset row a)) all ∙
          rounds_add (step_screen t folds lay down offset) a (left - a) (place_at t lay down offset row a) ∙
          ap (rounds (step_screen t folds lay down offset) (left - a)) (rounds_in a row a (omega arith) h ∙ ap (place_at t lay down offset row) none)

      pub crosses : (x : ℕ) → toward folds (row_count t) down row ≡ Some x → rounds (step_screen t folds lay down offset) left (place_at t lay down offset row a) ≡
          rounds (step_screen t folds lay down offset) (left - a - 1) (place_at t lay down offset x (count_of t lay x - 1))
      crosses x found = to_edge ∙ rounds_on (step_screen t folds lay down offset) (left - a) (place_at t lay down offset row 0) (omega arith) ∙
          ap (rounds (step_screen t folds lay down offset) (left - a - 1))
          (round_off (place_at t lay down offset row 0) (ahead_at_lem row 0 (omega arith)) ∙ ap (entered t lay down offset (place_at t lay down offset row 0)) found)

      pub stops : toward folds (row_count t) down row ≡ None →
          rounds (step_screen t folds lay down offset) left (place_at t lay down offset row a) ≡ place_at t lay down offset row 0
      stops none = to_edge ∙ stuck (left - a) (place_at t lay down offset row 0) (ahead_at_lem row 0 (omega arith)) none
