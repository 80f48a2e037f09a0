-- What a call on several byte strings answers and leaves: their code points stand one after the other at the start of the room.
-- Definitions only; the laws are in `proofs/Joins.antt`. Assumes nothing.
use Rattle.std.specs.Prelude.{ℕ, ◌+◌, ◌/◌, ◌%◌, ◌≡◌, List, [], ◌∷◌, Bool, true, ◌&&◌, length, eqb}
use Rattle.call_points.specs.Points.{filled_all, Three}
use Rattle.call_bytes.specs.Reply.{Reply, number, left, unfit, fitting}

-- each of them makes whole code points; how many they make together
unfoldable pub whole_all : List (List ℕ) → Bool
whole_all [] = true
whole_all (s ∷ l) = eqb (length s % 4) 0 && whole_all l

unfoldable pub count_all : List (List ℕ) → ℕ
count_all [] = 0
count_all (s ∷ l) = length s / 4 + count_all l

abbrev pub unfit_all : List (List ℕ) → List ℕ → ℕ
unfit_all l room = unfit (whole_all l) (count_all l) (length room)

-- what filling the room with three answers and leaves
pub record FilledThree (s u v room : List ℕ) (r : ℕ) (room' : List ℕ) : Type 0 where
  pub numbered : r ≡ unfit_all (s ∷ u ∷ v ∷ []) room
  pub fit : r ≡ 0 → Three s u v room room'
  pub kept : (r ≡ 0 → ⊥) → room' ≡ room

-- a call on bytes whose reply is m where they are fit
pub record AnsweredAll (l : List (List ℕ)) (room out : List ℕ) (m : Reply) (r : ℕ) (room' out' : List ℕ) : Type 0 where
  pub numbered : r ≡ fitting (unfit_all l room) (number m) (unfit_all l room)
  pub room_left : room' ≡ fitting (unfit_all l room) (filled_all l room) room
  pub out_left : out' ≡ fitting (unfit_all l room) (left m out) out
