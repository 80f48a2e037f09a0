-- Screen moves that remember: the offset within a segment is kept from move to move. Document 02, #110. The walk is that of `gj` and `gk`; what differs is
-- where it begins, and which offset it keeps. Definitions only; the laws are in `proofs/Keeping.antt`. Assumes nothing.
use Rattle.std.specs.Prelude.{◌≡◌, ℕ, max, ◌≤◌, List, Bool, cond, ◌||◌, eqb, Option, Some, None}
use Rattle.chars.specs.White.{is_white}
use Rattle.row_wrap.specs.declared.Wrap.{Wrap}
use Rattle.row_wrap.specs.Modes.{is_none, segments_of}
use Rattle.text.specs.Text.{row_at}
use Rattle.text.specs.declared.Position.{Position}
use Rattle.screen_segments.specs.Parts.{offset_in}
use Rattle.vertical.specs.declared.Target.{Target}
use Rattle.lists.specs.Rounds.{rounds}
use Rattle.visible_rows.specs.Visible.{delta_of}
use Rattle.vertical.specs.Moves.{wanted_col, move_vertical}
use Rattle.screen.specs.declared.Glided.{Glided}
use Rattle.screen.specs.declared.Kept.{Kept}
use Rattle.screen.specs.Screen.{step_screen, jumped, landed_at}

-- a closed fold is left only while no offset is kept: then the walk begins at the place itself
abbrev pub starts_at : List ℕ → List ℕ → Bool → Option ℕ → Position → Position
starts_at t folds down None p = jumped t folds down p
starts_at t folds down (Some x) p = p

-- the offset at hand, or a place's own
abbrev pub or_own : Option ℕ → ℕ → ℕ
or_own None own = own
or_own (Some x) own = x

-- r is that offset
pub record OffsetIs (n r : ℕ) : Type 0 where
  pub offset : r ≡ n
  pub small : r ≤ 4294967295

-- n rounds from a place, and the offset that they keep: the one at hand, or the place's own in its segment
abbrev pub glided : List ℕ → List ℕ → (List ℕ → List ℕ) → Bool → ℕ → Option ℕ → Position → Glided
glided t folds lay down n offset p =
    let kept = or_own offset (offset_in (lay (row_at t p.row)) (row_at t p.row) p.col) in
    record { place = rounds (step_screen t folds lay down kept) n p; offset = kept }

-- r is that place and offset
pub record GlidesTo (g r : Glided) : Type 0 where
  pub answer : r ≡ g
  pub small : r.offset ≤ 4294967295

-- the target of a count; the offset is kept whether or not a step was made
abbrev pub screen_kept : (ℕ → ℕ) → List ℕ → List ℕ → ℕ → (List ℕ → List ℕ) → Bool → ℕ → ℕ → ℕ → Option ℕ → Option ℕ → Kept
screen_kept w t folds tabstop lay down count row col sticky offset =
    let g = glided t folds lay down (max count 1) offset (starts_at t folds down offset (record { row = row; col = col })) in
    record { target = landed_at (wanted_col w t tabstop row col sticky) g.place; offset = Some g.offset }

-- a target of `j` or `k`: no offset is kept
abbrev pub unkept : Target → Kept
unkept p = record { target = p; offset = None }

-- with mode None or width 0 the move is that of `j` and `k`
abbrev pub move_screen_kept : (ℕ → ℕ) → List ℕ → List ℕ → ℕ → Wrap → ℕ → Bool → ℕ → ℕ → ℕ → Option ℕ → Option ℕ → Kept
move_screen_kept w t folds tabstop mode width down count row col sticky offset =
    cond (eqb width 0 || is_none mode) (unkept (move_vertical w t folds tabstop (delta_of down count) row col sticky))
    (screen_kept w t folds tabstop (segments_of w is_white mode width) down count row col sticky offset)
