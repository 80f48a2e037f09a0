-- Segments written to the front of lent room, and the answer that goes with it. Document 01, refusal 9.
-- Cited by the contracts of `src/breaks.rt`. Definitions only. Assumes nothing.
use Rattle.std.specs.Prelude.{ℕ, zero, suc, ◌/◌, ◌≡◌, List, ◌++◌, cond, length, drop, eqb, ltb}
use Rattle.row_wrap.specs.declared.Segments.{Segments}
use Rattle.row_wrap.specs.declared.Segments.TheVariants.{Count, Refused}

-- the answer with this refusal number: at 0 the count, else the number
unfoldable pub count_of : ℕ → ℕ → Segments
count_of zero count = Count count
count_of (suc n) count = Refused (suc n)

-- the room once the segments stand in front; the places past them stay
abbrev pub filled : List ℕ → List ℕ → List ℕ
filled segments room = segments ++ drop (length segments) room

-- the answer r and the room afterwards, for the refusal number n: not 0, the room is as it was
pub record Answered (n : ℕ) (segments room : List ℕ) (r : Segments) (room' : List ℕ) : Type 0 where
  pub answer : r ≡ count_of n (length segments / 2)
  pub left : room' ≡ cond (eqb n 0) (filled segments room) room

-- 9: too little room
unfoldable pub room_refusal : List ℕ → List ℕ → ℕ
room_refusal segments room = cond (ltb (length room) (length segments)) 9 0

abbrev pub Fitted : List ℕ → List ℕ → Segments → List ℕ → Type 0
Fitted segments room r room' = Answered (room_refusal segments room) segments room r room'
