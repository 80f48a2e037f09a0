-- The offset within a segment: what the screen moves that remember do with it, and that every other motion clears it. Document 02, #110, over what the
-- public calls answer (`moved_by`). Their counts add by `specs/CountsAdd.antt`. Definitions only; `remembering` is in `proofs/Remembering.antt`. Assumes
-- nothing.
use Rattle.std.specs.Prelude.{ℕ, max, ◌≡◌, List, Bool, true, false, ◌||◌, eqb, Some, None}
use Rattle.lists.specs.Rounds.{rounds}
use Rattle.chars.specs.White.{is_white}
use Rattle.widths.specs.declared.Ambiguous.{Ambiguous}
use Rattle.widths.specs.Widths.{width_as}
use Rattle.row_wrap.specs.declared.Wrap.{Wrap}
use Rattle.row_wrap.specs.Modes.{is_none, segments_of}
use Rattle.text.specs.Text.{row_at}
use Rattle.text.specs.declared.Position.{Position}
use Rattle.screen_segments.specs.Parts.{offset_in}
use Rattle.screen.specs.Screen.{step_screen, jumped}
use Rattle.motions.specs.declared.Caret.{Caret}
use Rattle.motions.specs.declared.Move.{Move}
use Rattle.motions.specs.declared.Move.TheVariants.{By, Word, Rows, Screen, ScreenKept, Viewport, Bracket, Find}
use Rattle.motions.specs.declared.Moved.{Moved}
use Rattle.motions.specs.declared.Moved.TheVariants.{To, Refused}
use Rattle.motions.specs.Carets.{here, cleared}
use Rattle.motions.specs.Going.{moved_by}

-- every motion but the two that remember
abbrev pub Forgets : Move → Type 0
Forgets (By w) = Unit
Forgets (Word m big stop) = Unit
Forgets (Rows down a) = Unit
Forgets (Screen mode width down a) = Unit
Forgets (ScreenKept mode width down a) = ⊥
Forgets (Viewport edge top height offset) = Unit
Forgets Bracket = Unit
Forgets (Find x forward till skip) = Unit

-- an answer but for its offset
abbrev pub forgotten : Moved → Moved
forgotten (To c) = To (cleared c)
forgotten (Refused f) = Refused f

-- a viewport that does not break its rows
abbrev pub unbroken : Wrap → ℕ → Bool
unbroken mode width = eqb width 0 || is_none mode

-- the offset of a place in its segment, by the widths of a setting
abbrev pub own_offset : Ambiguous → List ℕ → Wrap → ℕ → Position → ℕ
own_offset a t mode width p = offset_in (segments_of (width_as a) is_white mode width (row_at t p.row)) (row_at t p.row) p.col

-- on one text, folds, list and tabstop, by one viewport, direction and setting, with any count n
pub record Remembering (t folds list : List ℕ) (tabstop n : ℕ) (k : Caret) : Type 0 where
  -- every other motion that is not refused leaves no offset, moved or not
  pub others : (move : Move) → Forgets move → (c : Caret) → moved_by t folds list tabstop move n k ≡ To c → c.offset ≡ None
  -- without an offset: the row, column, sticky column and refusals of `gj` and `gk`
  pub as_before : (a : Ambiguous) (mode : Wrap) (width : ℕ) (down : Bool) → k.offset ≡ None →
      forgotten (moved_by t folds list tabstop (ScreenKept mode width down a) n k) ≡ moved_by t folds list tabstop (Screen mode width down a) n k
  -- and the offset is set, whether or not a step was made: the one in its segment of the place that leaving a closed fold leads to
  pub set : (a : Ambiguous) (mode : Wrap) (width : ℕ) (down : Bool) (c : Caret) → unbroken mode width ≡ false → k.offset ≡ None →
      moved_by t folds list tabstop (ScreenKept mode width down a) n k ≡ To c → c.offset ≡ Some (own_offset a t mode width (jumped t folds down (here k)))
  -- with one: it is kept, and the steps start from the caret itself
  pub kept : (a : Ambiguous) (mode : Wrap) (width : ℕ) (down : Bool) (x : ℕ) (c : Caret) → unbroken mode width ≡ false → k.offset ≡ Some x →
      moved_by t folds list tabstop (ScreenKept mode width down a) n k ≡ To c → c.offset ≡ Some x
  pub from_itself : (a : Ambiguous) (mode : Wrap) (width : ℕ) (down : Bool) (x : ℕ) (c : Caret) → unbroken mode width ≡ false → k.offset ≡ Some x →
      moved_by t folds list tabstop (ScreenKept mode width down a) n k ≡ To c →
      here c ≡ rounds (step_screen t folds (segments_of (width_as a) is_white mode width) down x) (max n 1) (here k)
  -- with mode None or width 0: as `j` and `k`, whose caret has no offset
  pub as_rows : (a : Ambiguous) (mode : Wrap) (width : ℕ) (down : Bool) → unbroken mode width ≡ true →
      moved_by t folds list tabstop (ScreenKept mode width down a) n k ≡ moved_by t folds list tabstop (Rows down a) n k
