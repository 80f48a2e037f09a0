-- Folds over the rows of a text, as a list of three numbers each: start, end, closed (0 or 1). The rows that they hide, and those still to be seen.
-- From document 01, "Text, rows, carets" and refusal 5; `Fold::hides` of folds.rs, the visible rows of `SnapshotFoldProvider` (buffer_impl.rs) over all rows,
-- and `closed_fold_at` of motions.rs. Definitions only; the laws are in `proofs/Hiding.antt`. Assumes nothing.
use Rattle.std.specs.Prelude.{ℕ, zero, suc, ◌+◌, ◌-◌, ◌/◌, ◌%◌, List, [], ◌∷◌, Bool, false, cond, ◌&&◌, ◌||◌, not, length, eqb, ltb, leb, Option, Some, None}

-- some fold is such
unfoldable pub any_fold : (ℕ → ℕ → ℕ → Bool) → List ℕ → Bool
any_fold p [] = false
any_fold p (s ∷ []) = false
any_fold p (s ∷ e ∷ []) = false
any_fold p (s ∷ e ∷ closed ∷ folds) = p s e closed || any_fold p folds

-- a fold that runs backwards, ends outside the rows, or is neither open nor closed
abbrev pub bad_fold : ℕ → ℕ → ℕ → ℕ → Bool
bad_fold rows s e closed = ltb e s || (leb rows e || ltb 1 closed)

-- 5 where the folds over so many rows are refused, 0 where they are accepted
unfoldable pub fold_refusal : List ℕ → ℕ → ℕ
fold_refusal folds rows = cond (not (eqb (length folds % 3) 0) || (ltb 256 (length folds / 3) || any_fold (bad_fold rows) folds)) 5 0

-- a closed fold hides the rows after its start up to its end
abbrev pub fold_hides : ℕ → ℕ → ℕ → ℕ → Bool
fold_hides row s e closed = eqb closed 1 && (ltb s row && leb row e)

abbrev pub hidden : List ℕ → ℕ → Bool
hidden folds row = any_fold (fold_hides row) folds

-- the first of the n rows from `row` on that no fold hides. n is exact: for the next visible row it is the rows behind, `rows - (row + 1)`
unfoldable pub visible_from : List ℕ → ℕ → ℕ → Option ℕ
visible_from folds row zero = None
visible_from folds row (suc n) = cond (hidden folds row) (visible_from folds (row + 1) n) (Some row)

abbrev pub next_visible : List ℕ → ℕ → ℕ → Option ℕ
next_visible folds rows row = visible_from folds (row + 1) (rows - (row + 1))

-- the last row before `row` that no fold hides
unfoldable pub prev_visible : List ℕ → ℕ → Option ℕ
prev_visible folds zero = None
prev_visible folds (suc row) = cond (hidden folds row) (prev_visible folds row) (Some row)

-- the closed fold whose first row is given: up to the row before the next one seen, or to the last row with content
abbrev pub last_before : ℕ → Option ℕ → ℕ
last_before content (Some next) = next - 1
last_before content None = content - 1

abbrev pub closed_from : List ℕ → ℕ → ℕ → Option ℕ → Option (ℕ × ℕ)
closed_from folds rows content None = None
closed_from folds rows content (Some first) =
    cond (hidden folds (first + 1)) (Some (first, last_before content (next_visible folds rows first))) None

-- the closed fold at a row: its first row is the row itself, or the one seen before it where it is hidden
abbrev pub closed_fold_at : List ℕ → ℕ → ℕ → ℕ → Option (ℕ × ℕ)
closed_fold_at folds rows content row = closed_from folds rows content (cond (hidden folds row) (prev_visible folds row) (Some row))
