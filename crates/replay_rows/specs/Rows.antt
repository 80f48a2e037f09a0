-- Rows of decimal numbers: each number is followed by a space, the last one by the row's end, and `3*97` is 97 three times. What the contracts of
-- `replay_rows::rows` cite. Definitions only; the laws are in `proofs/Reading.antt`. Long, since a reader by bytes and the fills by numbers speak of
-- each other. Assumes nothing.
use Rattle.std.specs.Prelude.{ℕ, suc, ◌+◌, ◌-◌, ◌*◌, ◌≤◌, ◌≡◌, List, [], ◌∷◌, ◌++◌, Bool, true, false, cond, ◌&&◌, ◌||◌, not, length, take, replicate, eqb, ltb, leb, Option, Some, None}
use Rattle.std.proofs.Math.Seq.{paste}
use Rattle.lists.specs.Lists.{on_first}
use Rattle.lists.specs.Codes.{is_digit}
use Rattle.replay_rows.specs.declared.Reader.{Reader}

-- before a number's first digit
abbrev pub fresh : Reader
fresh = record { value = 0; times = 1; begun = false; many = false; ok = true }

-- no number
abbrev pub spoilt : Reader
spoilt = record { value = 0; times = 1; begun = false; many = false; ok = false }

-- one digit more; no number is above 4294967295
unfoldable pub digit : Reader → ℕ → Reader
digit r d =
    cond (ltb 4294967295 (r.value * 10 + d)) spoilt
    (record { value = r.value * 10 + d; times = r.times; begun = true; many = r.many; ok = true })

-- after a `*` the number so far says how often the next one stands there
unfoldable pub star : Reader → Reader
star r = cond (r.begun && not r.many) (record { value = 0; times = r.value; begun = false; many = true; ok = true }) spoilt

-- one byte more of a number
unfoldable pub step : Reader → ℕ → Reader
step r x = cond (eqb x 42) (star r) (cond (is_digit x) (digit r (x - 48)) spoilt)

-- a space or the row's end
abbrev pub ends : ℕ → Bool
ends x = eqb x 32 || eqb x 10

-- what a row holds
pub data Read : Type 0 where
  these : List ℕ → Read
  malformed : Read

-- the numbers l in front
unfoldable pub onto : List ℕ → Read → Read
onto l (these m) = these (l ++ m)
onto l malformed = malformed

-- the numbers of a row from within a number on, where there is room for `most` of them
unfoldable pub read_from : ℕ → Reader → List ℕ → Read
read_from most r [] = cond (r.begun || r.many) malformed (these [])
read_from most r (x ∷ s) =
    cond (ends x)
    (cond (r.begun && leb r.times most) (onto (replicate r.times r.value) (read_from (most - r.times) fresh s)) malformed)
    (cond (step r x).ok (read_from most (step r x) s) malformed)

-- the numbers of a row
abbrev pub read_row : ℕ → List ℕ → Read
read_row most row = read_from most fresh row

-- the numbers that stand at the front of the room
abbrev pub got : Option ℕ → List ℕ → Read
got (Some n) room = these (take n room)
got None room = malformed

-- how many they are
abbrev pub count_of : Option ℕ → ℕ
count_of (Some n) = n
count_of None = 0

-- what `read_row` answers and leaves
pub record RowRead (row room : List ℕ) (r : Option ℕ) (room' : List ℕ) : Type 0 where
  pub numbers : got r room' ≡ read_row (length room) row
  pub kept : length room' ≡ length room
  pub within : count_of r ≤ length room'

-- what `fill` leaves: x in the places from `from` on, and the others as they were; the last two follow from the first
pub record Filled (room : List ℕ) (from times x : ℕ) (room' : List ℕ) : Type 0 where
  pub room_left : room' ≡ paste room from (replicate times x) times
  pub front : take (from + times) room' ≡ take from room ++ replicate times x
  pub kept : length room' ≡ length room

-- how many bytes the first row of a list has, its end included
unfoldable pub row_length : List ℕ → ℕ
row_length [] = 0
row_length (x ∷ s) = cond (eqb x 10) 1 (suc (row_length s))

-- the rows of a list, each with its end
unfoldable pub lines : List ℕ → List (List ℕ)
lines [] = []
lines (x ∷ s) = cond (eqb x 10) ((x ∷ []) ∷ lines s) (on_first x (lines s))
