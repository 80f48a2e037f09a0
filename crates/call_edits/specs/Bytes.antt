-- An insert of bytes: the room is filled with their code points, and those are put in. From document 02, #102. Definitions only. Assumes nothing.
use Rattle.std.specs.Prelude.{ℕ, ◌≡◌, List}
use Rattle.text.specs.declared.Position.{Position}
use Rattle.call_points.specs.Points.{points, filled}
use Rattle.call_bytes.specs.Reply.{unfit_one, fitting}
use Rattle.call_edits.specs.Edits.{HostEdits}

-- bytes that are unfit, or too many for the room: their number, and all else as it was
pub record Untouched (f : ℕ) (buf fold caret sizes : List ℕ) (r : ℕ) (buf' fold' caret' sizes' : List ℕ) : Type 0 where
  pub numbered : r ≡ f
  pub text_kept : buf' ≡ buf
  pub folds_kept : fold' ≡ fold
  pub caret_kept : caret' ≡ caret
  pub sizes_kept : sizes' ≡ sizes

pub record EditsFilled (buf fold : List ℕ) (p : Position) (s room caret sizes : List ℕ) (r : ℕ) (buf' fold' room' caret' sizes' : List ℕ) : Type 0 where
  pub room_left : room' ≡ fitting (unfit_one s room) (filled s room) room
  pub edited : unfit_one s room ≡ 0 → HostEdits buf fold p p (points s) caret sizes r buf' fold' caret' sizes'
  pub unfit : (unfit_one s room ≡ 0 → ⊥) → Untouched (unfit_one s room) buf fold caret sizes r buf' fold' caret' sizes'
