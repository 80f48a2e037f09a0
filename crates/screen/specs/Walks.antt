-- What the walks of `src/walks.rt` answer, in rows that are broken by characters or by words; what they require is in `specs/Ready.antt`.
-- Definitions only. Assumes nothing.
use Rattle.std.specs.Prelude.{ℕ, ◌-◌, ◌*◌, ◌≤◌, ◌<◌, ◌≡◌, List, Bool, get_or}
use Rattle.text.specs.Text.{row_at}
use Rattle.text.specs.Offsets.{Stands}
use Rattle.screen.specs.declared.Jump.{Jump}
use Rattle.screen.specs.declared.Seat.{Seat}
use Rattle.screen.specs.declared.Spot.{Spot}
use Rattle.text.specs.declared.Position.{Position}
use Rattle.lists.specs.Rounds.{rounds}
use Rattle.screen_segments.specs.Parts.{segment_count, ahead_of}
use Rattle.screen.specs.Screen.{on_segment, seat_of, step_screen}

-- the place in a row with so many segments ahead, and how many a place has
abbrev pub place_at : List ℕ → (List ℕ → List ℕ) → Bool → ℕ → ℕ → ℕ → Position
place_at t lay down offset row a = on_segment t lay offset row (ahead_of down (segment_count (lay (row_at t row))) a)

abbrev pub ahead_at : List ℕ → (List ℕ → List ℕ) → Bool → Position → ℕ
ahead_at t lay down p = ahead_of down (segment_count (lay (row_at t p.row))) (seat_of t lay p)

-- that, and the character offset of a place in its segment
abbrev pub seat_at : List ℕ → (List ℕ → List ℕ) → Bool → Position → Seat
seat_at t lay down p = record { ahead = ahead_at t lay down p; offset = p.col - get_or (lay (row_at t p.row)) (2 * seat_of t lay p) 0 }

-- a row with its start, and so many segments ahead in it
pub record IsSpot (t : List ℕ) (lay : List ℕ → List ℕ) (s : Spot) : Type 0 where
  pub line : Stands t s.row s.start s.start
  pub inside : s.ahead < segment_count (lay (row_at t s.row))

-- n rounds from one spot lead to the other, whatever offset is kept
abbrev pub Leads : List ℕ → List ℕ → (List ℕ → List ℕ) → Bool → ℕ → Spot → Spot → Type 0
Leads t folds lay down n s r =
    (offset : ℕ) → rounds (step_screen t folds lay down offset) n (place_at t lay down offset s.row s.ahead) ≡ place_at t lay down offset r.row r.ahead

-- r is such a spot
pub record WalksTo (t folds : List ℕ) (lay : List ℕ → List ℕ) (down : Bool) (n : ℕ) (s r : Spot) : Type 0 where
  pub leads : Leads t folds lay down n s r
  pub stands : IsSpot t lay r

-- a place with its row's start
pub record JumpedTo (t : List ℕ) (p : Position) (r : Jump) : Type 0 where
  pub place : record { row = r.row; col = r.col } ≡ p
  pub line : Stands t r.row r.start r.start
  pub small : r.col ≤ 1048576
