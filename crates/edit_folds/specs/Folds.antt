-- Folds after an edit of their text: three numbers each, start, end, closed (0 or 1). Their rows are mapped, and a fold whose differing rows become
-- one is lost. From document 02, #102. Definitions only; the laws are in `proofs/Mapped.antt` and `Kept.antt`. Assumes nothing.
use Rattle.std.specs.Prelude.{ℕ, ◌+◌, ◌-◌, ◌*◌, ◌≤◌, ◌<◌, ◌≡◌, List, [], ◌∷◌, Bool, cond, ◌&&◌, not, eqb, leb, length, get_or, take}
use Rattle.edit_places.specs.Replaced.{Refilled, Over}

-- a row of the old text in the new one, where a stretch from row r1 to row r2 gives way to k separators: up to r1 it stays, up to r2 it
-- becomes r1, and behind r2 it moves up by r2 - r1 and down by k
unfoldable pub mapped_row : ℕ → ℕ → ℕ → ℕ → ℕ
mapped_row r1 r2 k x = cond (leb x r1) x (cond (leb x r2) r1 (x - (r2 - r1) + k))

-- the ends s and e differ, and what they become, x and y, does not
unfoldable pub is_lost : ℕ → ℕ → ℕ → ℕ → Bool
is_lost s e x y = not (eqb s e) && eqb x y

-- the folds with their rows mapped by f, without those that are lost
unfoldable pub kept_folds : (ℕ → ℕ) → List ℕ → List ℕ
kept_folds f [] = []
kept_folds f (s ∷ []) = []
kept_folds f (s ∷ e ∷ []) = []
kept_folds f (s ∷ e ∷ closed ∷ folds) =
    let r = kept_folds f folds in
    cond (is_lost s e (f s) (f e)) r (f s ∷ f e ∷ closed ∷ r)

-- the first n numbers can be raised by k
pub record Raises (l : List ℕ) (n k : ℕ) : Type 0 where
  pub room : (i : ℕ) → i < n → get_or l i 0 + k ≤ 4294967295

-- what mapping a row requires: the rows of the stretch in order, and that the row can be raised
pub record RowMaps (r1 r2 k x : ℕ) : Type 0 where
  pub order : r1 ≤ r2
  pub near : x + k ≤ 4294967295

-- and mapping the rows of n folds
pub record FoldsMap (folds : List ℕ) (n r1 r2 k : ℕ) : Type 0 where
  pub order : r1 ≤ r2
  pub fit : 3 * n ≤ length folds
  pub raises : Raises folds (3 * n) k

-- what `keep_folds` answers and leaves: how many of n folds are kept, and those at the front. The last follows
pub record FoldsKept (f : ℕ → ℕ) (buf : List ℕ) (n r : ℕ) (buf' : List ℕ) : Type 0 where
  pub count : length (kept_folds f (take (3 * n) buf)) ≡ 3 * r
  pub front : Over buf 0 (kept_folds f (take (3 * n) buf)) buf'
  pub fewer : r ≤ n

-- what `map_folds` answers and leaves: how many of n folds are kept, and those in the buffer
pub record FoldsMapped (f : ℕ → ℕ) (buf : List ℕ) (n r : ℕ) (buf' : List ℕ) : Type 0 where
  pub count : length (kept_folds f (take (3 * n) buf)) ≡ 3 * r
  pub folds : Refilled buf (3 * n) (kept_folds f (take (3 * n) buf)) buf'
