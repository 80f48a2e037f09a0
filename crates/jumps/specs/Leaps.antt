-- Jumps on positions, where nothing is refused: what the loop goes by. Definitions only. Long by its kinds: each jump in one place. Assumes nothing.
use Rattle.std.specs.Prelude.{ℕ, ◌+◌, ◌≡◌, List, [], ◌∷◌, false, cond, eqb, get_or, take, set}
use Rattle.text.specs.Text.{row_count}
use Rattle.text.specs.declared.Position.{Position}
use Rattle.bracket_walks.specs.declared.Partner.{Partner}
use Rattle.bracket_walks.specs.declared.Partner.TheVariants.{There, None, Refused}
use Rattle.brackets.specs.Find.{key_from}
use Rattle.fold_stretches.specs.Stretches.{NoFold}
use Rattle.row_table.specs.Table.{row_starts}
use Rattle.edit_places.specs.Replaced.{Over}
use Rattle.word_kinds.specs.declared.Spot.{Spot}
use Rattle.word_kinds.specs.Spots.{place_of, Lands}
use Rattle.word_rounds.specs.declared.Motion.{Motion}
use Rattle.word_rounds.specs.declared.Motion.TheVariants.{Fwd, Back, End}
use Rattle.word_rounds.specs.Rounds.{word_motion}
use Rattle.words.specs.declared.Walked.{Walked}
use Rattle.motions.specs.declared.Caret.{Caret}
use Rattle.motions.specs.Carets.{here, put}

-- the word motion of a kind
unfoldable pub motion_of : ℕ → Motion
motion_of kind = cond (eqb kind 0) Fwd (cond (eqb kind 1) Back End)

-- to the partner, or nowhere
abbrev pub on_partner : Position → Partner → Position
on_partner p (There q) = q
on_partner p None = p
on_partner p (Refused f) = p

-- where a jump leads to; `class` gives the kind of a character
unfoldable pub leapt : List ℕ → List ℕ → (ℕ → ℕ) → ℕ → ℕ → Position → Position
leapt t folds class kind count p =
    cond (eqb kind 3) (on_partner p (key_from t p.row p.col)) (word_motion t folds class false (motion_of kind) false count p)

unfoldable pub leap_places : List ℕ → List ℕ → (ℕ → ℕ) → List ℕ → Position → List ℕ
leap_places t folds class [] p = []
leap_places t folds class (kind ∷ []) p = []
leap_places t folds class (kind ∷ count ∷ jumps) p =
    let next = leapt t folds class kind count p in next.row ∷ next.col ∷ leap_places t folds class jumps next

unfoldable pub leap_end : List ℕ → List ℕ → (ℕ → ℕ) → List ℕ → Position → Position
leap_end t folds class [] p = p
leap_end t folds class (kind ∷ []) p = p
leap_end t folds class (kind ∷ count ∷ jumps) p = leap_end t folds class jumps (leapt t folds class kind count p)

-- row and column of a place, in two places of the answers
abbrev pub two_places : List ℕ → ℕ → Position → List ℕ
two_places answers i p = set (set answers i p.row) (i + 1) p.col

-- a table whose first places are the text's row starts
abbrev pub IsTable : List ℕ → List ℕ → Type 0
IsTable t table = take (row_count t) table ≡ row_starts t

-- what a jump from a place comes to, with a stretch of rows without closed folds
pub record Leaps (t folds : List ℕ) (class : ℕ → ℕ) (kind count : ℕ) (p : Position) (r : Walked) : Type 0 where
  pub lands : Lands t r.spot (leapt t folds class kind count p)
  pub bare : NoFold folds r.stretch

-- one jump, and its place in the answers
pub record Jumped (t folds : List ℕ) (class : ℕ → ℕ) (jumps : List ℕ) (i : ℕ) (answers : List ℕ) (p : Position) (r : Walked) (answers' : List ℕ) : Type 0 where
  pub leaps : Leaps t folds class (get_or jumps i 0) (get_or jumps (i + 1) 0) p r
  pub left : answers' ≡ two_places answers i (place_of t r.spot)

-- all jumps, and their places
pub record Ran (t folds : List ℕ) (class : ℕ → ℕ) (jumps answers : List ℕ) (p : Position) (r : Spot) (answers' : List ℕ) : Type 0 where
  pub lands : Lands t r (leap_end t folds class jumps p)
  pub left : Over answers 0 (leap_places t folds class jumps p) answers'

-- the same from a caret's place, and the caret at the end
pub record RanFrom (t folds : List ℕ) (class : ℕ → ℕ) (jumps answers : List ℕ) (k r : Caret) (answers' : List ℕ) : Type 0 where
  pub caret : r ≡ put k (leap_end t folds class jumps (here k))
  pub left : Over answers 0 (leap_places t folds class jumps (here k)) answers'
