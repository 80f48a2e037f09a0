-- The positions that the Rust writes in the middle of a counted motion, in the order of its `set_cursor`s, by the rounds that the contracts cite.
-- Where a jump or a round leaves the caret as it is the Rust may write nothing; the lists have that position once more.
-- Definitions only; the laws are in `proofs/Trails.antt`. Assumes nothing.
use Rattle.std.specs.Prelude.{ℕ, zero, suc, ◌-◌, max, List, [], ◌∷◌, Bool, false}
use Rattle.text.specs.Text.{row_at, position}
use Rattle.word_rounds.specs.declared.Motion.{Motion}
use Rattle.word_rounds.specs.declared.Motion.TheVariants.{Fwd, Back, End, EndBack}
use Rattle.word_rounds.specs.Rounds.{Turn, On, Off, jump_fwd, jump_back, round_of}
use Rattle.screen_segments.specs.Parts.{offset_in}
use Rattle.text.specs.declared.Position.{Position}
use Rattle.screen.specs.Screen.{step_screen, jumped}
use Rattle.text.specs.declared.Position.{Position}

-- where each of n rounds leads to, `show` the position of a place
unfoldable pub trail : {A : Type 0} → (A → Position) → (A → A) → ℕ → A → List Position
trail show f zero p = []
trail show f (suc n) p = show (f p) ∷ trail show f n (f p)

-- the place that a word is sought from: out of the closed fold, where there is one
abbrev pub origin : List ℕ → List ℕ → Motion → Position → Position
origin t folds Fwd p = jump_fwd t folds p
origin t folds Back p = jump_back t folds p
origin t folds End p = jump_fwd t folds p
origin t folds EndBack p = p

abbrev pub at_place : Position → Position
at_place p = position p.row p.col

-- the word found, then what the rounds after it write; none is found, and no more is written
abbrev pub found : Turn → (Position → List Position) → List Position
found (On q) rest = at_place q ∷ rest q
found (Off q) rest = []

-- each round of a word motion writes the fold's jump, then the word found
unfoldable pub counted_writes : (Position → Position) → (Position → Turn) → ℕ → Position → List Position
counted_writes from round zero p = []
counted_writes from round (suc n) p = at_place (from p) ∷ found (round p) (counted_writes from round n)

-- as in `word_motion`, `stop` holds in the first round alone
unfoldable pub word_writes : List ℕ → List ℕ → (ℕ → ℕ) → Bool → Motion → Bool → ℕ → Position → List Position
word_writes t folds kind big m stop count p =
    at_place (origin t folds m p) ∷
    found (round_of t folds kind big m stop p) (counted_writes (origin t folds m) (round_of t folds kind big m false) (max count 1 - 1))

-- a screen move under wrap writes the fold's jump, then each step
abbrev pub on_screen : Position → Position
on_screen p = position p.row p.col

-- a step of the walk from p: it keeps the offset that p has in its segment
abbrev pub step_of : List ℕ → List ℕ → (List ℕ → List ℕ) → Bool → Position → Position → Position
step_of t folds lay down p = step_screen t folds lay down (offset_in (lay (row_at t p.row)) (row_at t p.row) p.col)

abbrev pub screen_writes : List ℕ → List ℕ → (List ℕ → List ℕ) → Bool → ℕ → Position → List Position
screen_writes t folds lay down count p =
    on_screen (jumped t folds down p) ∷ trail on_screen (step_of t folds lay down (jumped t folds down p)) (max count 1) (jumped t folds down p)
