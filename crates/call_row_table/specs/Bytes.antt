-- The same of bytes: the room is filled with their code points, and those are taken. From document 02, #106. Definitions only. Assumes nothing.
use Rattle.std.specs.Prelude.{ℕ, ◌≡◌, List}
use Rattle.text.specs.declared.Position.{Position}
use Rattle.call_points.specs.Points.{points, filled}
use Rattle.call_bytes.specs.Reply.{unfit_one, fitting}
use Rattle.call_edits.specs.Bytes.{Untouched}
use Rattle.call_row_table.specs.Tables.{HostFills, HostKeeps}

-- a fill by the bytes of a text: those that are unfit, or too many for the room, leave all as it was
pub record FillsFilled (s room table out : List ℕ) (r : ℕ) (room' starts' out' : List ℕ) : Type 0 where
  pub room_left : room' ≡ fitting (unfit_one s room) (filled s room) room
  pub filled_table : unfit_one s room ≡ 0 → HostFills (points s) table out r starts' out'
  pub unfit : (unfit_one s room ≡ 0 → ⊥) → (r ≡ unfit_one s room) × (starts' ≡ table) × (out' ≡ out)

-- an insert of bytes
pub record KeepsFilled (buf fold table : List ℕ) (p : Position) (s room caret sizes : List ℕ) (r : ℕ)
    (buf' fold' starts' room' caret' sizes' : List ℕ) : Type 0 where
  pub room_left : room' ≡ fitting (unfit_one s room) (filled s room) room
  pub edited : unfit_one s room ≡ 0 → HostKeeps buf fold table p p (points s) caret sizes r buf' fold' starts' caret' sizes'
  pub unfit : (unfit_one s room ≡ 0 → ⊥) → Untouched (unfit_one s room) buf fold caret sizes r buf' fold' caret' sizes' × (starts' ≡ table)
