-- Code points as bytes: four bytes each, the lowest first. Document 01, "What form to use where".
-- What the contracts of `call_points` and `exports` cite. Definitions only; the laws are in `proofs/Laws.antt`. Assumes nothing.
use Rattle.std.specs.Prelude.{ℕ, ◌+◌, ◌*◌, ◌/◌, ◌≤◌, ◌≡◌, List, [], ◌∷◌, ◌++◌, length, take, drop}

-- the number that four bytes make
abbrev pub word : ℕ → ℕ → ℕ → ℕ → ℕ
word a b c d = a + 0x100 * b + 0x10000 * c + 0x1000000 * d

-- the code points of a byte string; what is left over, fewer than four bytes, makes none
unfoldable pub points : List ℕ → List ℕ
points [] = []
points (a ∷ []) = []
points (a ∷ b ∷ []) = []
points (a ∷ b ∷ c ∷ []) = []
points (a ∷ b ∷ c ∷ d ∷ s) = word a b c d ∷ points s

-- the room after the code points of s were put at its start
abbrev pub filled : List ℕ → List ℕ → List ℕ
filled s room = points s ++ drop (length s / 4) room

-- the same for two byte strings, one after the other
abbrev pub filled_two : List ℕ → List ℕ → List ℕ → List ℕ
filled_two s u room = points s ++ (points u ++ drop (length s / 4 + length u / 4) room)

-- and for any number of them: each at the start of what the ones before it left
unfoldable pub filled_all : List (List ℕ) → List ℕ → List ℕ
filled_all [] room = room
filled_all (s ∷ l) room = points s ++ filled_all l (drop (length s / 4) room)

-- what `decode` answers and leaves; the last two follow from the first two
pub record Decoded (s room : List ℕ) (r : ℕ) (room' : List ℕ) : Type 0 where
  pub count : r ≡ length s / 4
  pub room_left : room' ≡ filled s room
  pub within : length s / 4 ≤ length room'
  pub front : take (length s / 4) room' ≡ points s

-- what `decode_two` leaves; the last three follow from the first
pub record Two (s u room : List ℕ) (room' : List ℕ) : Type 0 where
  pub room_left : room' ≡ filled_two s u room
  pub within : length s / 4 + length u / 4 ≤ length room'
  pub first : take (length s / 4) room' ≡ points s
  pub second : take (length u / 4) (drop (length s / 4) room') ≡ points u

-- what `decode_three` leaves; the last four follow from the first
pub record Three (s u v room : List ℕ) (room' : List ℕ) : Type 0 where
  pub room_left : room' ≡ filled_all (s ∷ u ∷ v ∷ []) room
  pub within : length s / 4 + (length u / 4 + length v / 4) ≤ length room'
  pub first : take (length s / 4) room' ≡ points s
  pub second : take (length u / 4) (drop (length s / 4) room') ≡ points u
  pub third : take (length v / 4) (drop (length s / 4 + length u / 4) room') ≡ points v
