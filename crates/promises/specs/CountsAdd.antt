-- A motion with count m and then the same with count n end where one with count m + n does. Document 02, #109 and #110: for the moves of
-- `specs/Adding.antt`, over what the public calls answer (`moved_by`: the definition that each one's contract cites). Definitions only; `counts_add` is
-- in `proofs/CountsAdd.antt`, and examples of counts that don't add are in `specs/Apart.antt`. Assumes nothing.
use Rattle.std.specs.Prelude.{ℕ, ◌+◌, ◌≤◌, ◌<◌, ◌^◌, ◌≡◌, List}
use Rattle.motions.specs.declared.Caret.{Caret}
use Rattle.motions.specs.declared.Move.{Move}
use Rattle.motions.specs.declared.Moved.{Moved}
use Rattle.motions.specs.declared.Moved.TheVariants.{To, Refused}
use Rattle.motions.specs.Going.{moved_by}
use Rattle.promises.specs.Adding.{Adds, going_on, whole}

-- both are accepted and answer with the same caret: its row, its column, its sticky column and its offset
pub record Meets (twice once : Moved) : Type 0 where
  pub caret : Caret
  pub twice_there : twice ≡ To caret
  pub once_there : once ≡ To caret

-- a second call on the whole caret that the first returned, its sticky column and its offset with it, against one call; where the first is refused so is
-- the one
pub record Sums (first : Moved) (second : Caret → Moved) (once : Moved) : Type 0 where
  pub accepted : (c : Caret) → first ≡ To c → Meets (second c) once
  pub refused : (f : ℕ) → first ≡ Refused f → once ≡ Refused f

-- on one text, fold list, keyword list and tabstop, from every caret, for all counts of at least 1 whose sum fits a u32
abbrev pub CountsAdd : Type 0
CountsAdd = (t folds list : List ℕ) (tabstop : ℕ) (move : Move) → Adds move → (m n : ℕ) → 1 ≤ m → 1 ≤ n → m + n < 2 ^ 32 → (k : Caret) →
    Sums (moved_by t folds list tabstop move m k) (λ c. moved_by t folds list tabstop (going_on move) n (whole c)) (moved_by t folds list tabstop move (m + n) k)
