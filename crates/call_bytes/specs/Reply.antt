-- What a call for a host answers, and what it leaves in what was lent to it. What the contracts of `call_bytes` and of the calls cite.
-- Definitions only; the laws are in `proofs/Replies.antt`. Assumes nothing.
use Rattle.std.specs.Prelude.{ℕ, ◌/◌, ◌%◌, ◌≡◌, List, [], ◌∷◌, Bool, cond, length, eqb, leb}
use Rattle.call_points.specs.Points.{points, filled, Decoded}
use Rattle.call_bytes.specs.declared.Told.{Told}
use Rattle.call_bytes.specs.declared.Told.TheVariants.{Value, Refused}

-- an answer of these values, or a number that says why there is none
pub data Reply : Type 0 where
  answer : List ℕ → Reply
  refused : ℕ → Reply

-- 0 of an answer, or the number
abbrev pub number : Reply → ℕ
number (answer v) = 0
number (refused f) = f

-- what `out` holds afterwards: the answer, or what it held
abbrev pub left : Reply → List ℕ → List ℕ
left (answer v) out = v
left (refused f) out = out

-- 1 for true
abbrev pub bit : Bool → ℕ
bit b = cond b 1 0

-- one number, or a refusal's
abbrev pub told : Told → Reply
told (Value n) = answer (n ∷ [])
told (Refused f) = refused f

-- a call on numbers whose reply is m
pub record Replied (m : Reply) (out : List ℕ) (r : ℕ) (out' : List ℕ) : Type 0 where
  pub numbered : r ≡ number m
  pub out_left : out' ≡ left m out

-- 101: the bytes make no whole code points; 102: too little room for them; 0: neither
unfoldable pub unfit : Bool → ℕ → ℕ → ℕ
unfit whole points room = cond whole (cond (leb points room) 0 102) 101

abbrev pub unfit_one : List ℕ → List ℕ → ℕ
unfit_one s room = unfit (eqb (length s % 4) 0) (length s / 4) (length room)

-- what filling the room answers and leaves
pub record Filled (s room : List ℕ) (r : ℕ) (room' : List ℕ) : Type 0 where
  pub numbered : r ≡ unfit_one s room
  pub fit : r ≡ 0 → Decoded s room (length s / 4) room'
  pub kept : (r ≡ 0 → ⊥) → room' ≡ room

-- a where the number is 0, else b
abbrev pub fitting : {A : Type 0} → ℕ → A → A → A
fitting f a b = cond (eqb f 0) a b

-- a call on bytes whose reply is m where they are fit: the room then holds their code points at its start
pub record Answered (s room out : List ℕ) (m : Reply) (r : ℕ) (room' out' : List ℕ) : Type 0 where
  pub numbered : r ≡ fitting (unfit_one s room) (number m) (unfit_one s room)
  pub room_left : room' ≡ fitting (unfit_one s room) (filled s room) room
  pub out_left : out' ≡ fitting (unfit_one s room) (left m out) out
