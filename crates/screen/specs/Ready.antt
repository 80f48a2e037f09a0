-- What the functions of `src/` require: the walks over rows that are broken, the way out of a closed fold, and a whole move.
-- Definitions only. Assumes nothing.
use Rattle.std.specs.Prelude.{ℕ, ◌≤◌, ◌<◌, ◌≡◌, List, Bool, length}
use Rattle.chars.specs.declared.Measure.{Measure}
use Rattle.chars.specs.Width.{width_with}
use Rattle.text.specs.Text.{row_count}
use Rattle.text.specs.Offsets.{IsLine}
use Rattle.text.specs.declared.Line.{Line}
use Rattle.folds.specs.Folds.{fold_refusal}
use Rattle.screen_segments.specs.Parts.{lay_of, Breaks}
use Rattle.vertical.specs.Moves.{AcceptedBy}
use Rattle.vertical.specs.Viewport.{Counts}
use Rattle.screen.specs.declared.Spot.{Spot}
use Rattle.screen.specs.Walks.{ahead_at, IsSpot}

-- what the checks have shown of all that a screen walk takes, with the tables that it is lent
pub record Ready (m : Measure) (white t folds : List ℕ) (rows width : ℕ) : Type 0 where
  pub breaks : Breaks m white width
  pub brief : length t ≤ 1048576
  pub all_rows : rows ≡ row_count t
  pub folds_good : fold_refusal folds rows ≡ 0

-- a walk from a spot, and one that keeps an offset
pub record ReadyAt (m : Measure) (white t folds : List ℕ) (rows width : ℕ) (word : Bool) (from : Spot) : Type 0 where
  pub ready : Ready m white t folds rows width
  pub spot : IsSpot t (lay_of (width_with m) word width) from

pub record Glides (m : Measure) (white t folds : List ℕ) (rows width : ℕ) (word : Bool) (from : Spot) (offset : ℕ) : Type 0 where
  pub walks : ReadyAt m white t folds rows width word from
  pub small : offset ≤ 4294967295

-- from a spot to its place, and from a place to its seat
pub record LandReady (m : Measure) (white t : List ℕ) (width : ℕ) (word : Bool) (s : Spot) (offset : ℕ) : Type 0 where
  pub breaks : Breaks m white width
  pub brief : length t ≤ 1048576
  pub spot : IsSpot t (lay_of (width_with m) word width) s
  pub small : offset ≤ 4294967295

pub record Sits (m : Measure) (white t : List ℕ) (width : ℕ) (l : Line) : Type 0 where
  pub breaks : Breaks m white width
  pub line : IsLine t l

-- n rounds from a row: from a place with so many segments ahead by the offset that they keep, and from a place alone
pub record SetsOut (m : Measure) (white t folds : List ℕ) (rows width : ℕ) (l : Line) (n : ℕ) : Type 0 where
  pub ready : Ready m white t folds rows width
  pub line : IsLine t l
  pub some : 0 < n

pub record Seated (m : Measure) (white t folds : List ℕ) (rows width : ℕ) (word down : Bool) (l : Line) (col ahead offset n : ℕ) : Type 0 where
  pub sets_out : SetsOut m white t folds rows width l n
  pub small : offset ≤ 4294967295
  pub ahead_is : ahead ≡ ahead_at t (lay_of (width_with m) word width) down (record { row = l.row; col = col })

pub record Placed (m : Measure) (white t folds : List ℕ) (rows width : ℕ) (l : Line) (col n : ℕ) : Type 0 where
  pub sets_out : SetsOut m white t folds rows width l n
  pub small : col ≤ 1048576

-- a jump from a place to a row, and the way out of the closed fold at a place
pub record JumpReady (t : List ℕ) (l : Line) (col row : ℕ) : Type 0 where
  pub line : IsLine t l
  pub small : col ≤ 1048576
  pub in_rows : row < row_count t

pub record Leaves (t folds : List ℕ) (rows content : ℕ) (l : Line) (col : ℕ) : Type 0 where
  pub counts : Counts t rows content
  pub folds_good : fold_refusal folds rows ≡ 0
  pub line : IsLine t l
  pub small : col ≤ 1048576

-- a move of an accepted place, and one where rows are broken
pub record Moving (m : Measure) (t folds : List ℕ) (rows content : ℕ) (l : Line) (col tabstop : ℕ) : Type 0 where
  pub accepted : AcceptedBy m t folds l col tabstop
  pub counts : Counts t rows content

pub record MovingBroken (m : Measure) (t folds : List ℕ) (rows content : ℕ) (l : Line) (col tabstop width : ℕ) : Type 0 where
  pub moving : Moving m t folds rows content l col tabstop
  pub wide : 0 < width
