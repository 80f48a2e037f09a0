-- A run of jumps, each from where the one before ended: the single calls made in turn. From document 02, #114. Definitions only; the laws are in
-- `proofs/`. Long by its refusals: each in its turn. Assumes nothing.
use Rattle.std.specs.Prelude.{ℕ, ◌≡◌, List, [], ◌∷◌, ◌++◌, false, cond, eqb, ltb, length, drop}
use Rattle.text_check.specs.Accept.{text_refusal}
use Rattle.text.specs.Text.{row_count}
use Rattle.folds.specs.Folds.{fold_refusal}
use Rattle.keywords.specs.Table.{parse_of}
use Rattle.positions.specs.Positions.{lowest}
use Rattle.row_table.specs.Table.{table_refusal}
use Rattle.word_rounds.specs.declared.Motion.TheVariants.{Fwd, Back, End}
use Rattle.motions.specs.declared.Caret.{Caret}
use Rattle.motions.specs.declared.Move.{Move}
use Rattle.motions.specs.declared.Move.TheVariants.{Word, Bracket}
use Rattle.motions.specs.declared.Moved.{Moved}
use Rattle.motions.specs.Carets.{caret_refusal, caret_after, moving}
use Rattle.motions.specs.Going.{moved_by}

-- the motion of a kind: 0 `w`, 1 `b`, 2 `e` that does not stay, 3 `%`
abbrev pub move_of : ℕ → Move
move_of kind = cond (eqb kind 0) (Word Fwd false false) (cond (eqb kind 1) (Word Back false false) (cond (eqb kind 2) (Word End false false) Bracket))

-- the caret after a jump: that of the single call
abbrev pub jumped : List ℕ → List ℕ → List ℕ → ℕ → ℕ → Caret → Caret
jumped t folds list kind count k = caret_after k (moved_by t folds list 0 (move_of kind) count k)

-- row and column after each jump, and the caret after the last; a jump is a kind and a count
unfoldable pub places_after : List ℕ → List ℕ → List ℕ → List ℕ → Caret → List ℕ
places_after t folds list [] k = []
places_after t folds list (kind ∷ []) k = []
places_after t folds list (kind ∷ count ∷ jumps) k =
    let next = jumped t folds list kind count k in next.row ∷ next.col ∷ places_after t folds list jumps next

unfoldable pub caret_at_end : List ℕ → List ℕ → List ℕ → List ℕ → Caret → Caret
caret_at_end t folds list [] k = k
caret_at_end t folds list (kind ∷ []) k = k
caret_at_end t folds list (kind ∷ count ∷ jumps) k = caret_at_end t folds list jumps (jumped t folds list kind count k)

-- 22: a length that is odd, or a kind above 3 anywhere
unfoldable pub kind_refusal : List ℕ → ℕ
kind_refusal [] = 0
kind_refusal (kind ∷ []) = 22
kind_refusal (kind ∷ count ∷ jumps) = cond (ltb 3 kind) 22 (kind_refusal jumps)

-- 14: fewer places than two for each jump
abbrev pub answer_refusal : List ℕ → ℕ → ℕ
answer_refusal jumps places = cond (ltb places (length jumps)) 14 0

-- what is checked after the inputs of a word motion: the table, the kinds, the places
abbrev pub late_refusal : List ℕ → List ℕ → ℕ → List ℕ → ℕ → ℕ
late_refusal t starts content jumps places =
    lowest (table_refusal (row_count t) t starts content ∷ kind_refusal jumps ∷ answer_refusal jumps places ∷ [])

-- those of a word motion with a table, and then 22 and 14
abbrev pub jumps_refusal : List ℕ → List ℕ → ℕ → List ℕ → List ℕ → Caret → List ℕ → List ℕ → ℕ
jumps_refusal t starts content folds list k jumps answers =
    lowest (
    text_refusal t ∷
    caret_refusal t k ∷
    fold_refusal folds (row_count t) ∷
    (parse_of list).refusal ∷
    table_refusal (row_count t) t starts content ∷
    kind_refusal jumps ∷
    answer_refusal jumps (length answers) ∷
    []
    )

-- the answer: the caret at the end
abbrev pub jumps_of : List ℕ → List ℕ → ℕ → List ℕ → List ℕ → Caret → List ℕ → List ℕ → Moved
jumps_of t starts content folds list k jumps answers =
    moving (jumps_refusal t starts content folds list k jumps answers) (caret_at_end t folds list jumps k)

-- what the answers' places hold then: on a refusal what they held before, and behind the answers too
abbrev pub places_left : List ℕ → List ℕ → ℕ → List ℕ → List ℕ → Caret → List ℕ → List ℕ → List ℕ
places_left t starts content folds list k jumps answers =
    cond (eqb (jumps_refusal t starts content folds list k jumps answers) 0)
    (places_after t folds list jumps k ++ drop (length jumps) answers)
    answers

pub record JumpsTo (t starts : List ℕ) (content : ℕ) (folds list : List ℕ) (k : Caret) (jumps answers : List ℕ) (r : Moved) (answers' : List ℕ) : Type 0 where
  pub answer : r ≡ jumps_of t starts content folds list k jumps answers
  pub left : answers' ≡ places_left t starts content folds list k jumps answers
