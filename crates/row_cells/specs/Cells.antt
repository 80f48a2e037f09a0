-- The cells of a character, and how many characters go into a number of cells, over any width function w. From `wrap.rs`.
-- Cited by the contracts of `src/lib.rt`. Definitions only; the laws are in `proofs/Fits.antt`. Assumes nothing.
use Rattle.std.specs.Prelude.{length, ◌≡◌, ℕ, suc, ◌-◌, max, ◌≤◌, List, [], ◌∷◌, cond, leb}

-- the cells of a character: at least one, and a tab is as any other
abbrev pub cells_of : (ℕ → ℕ) → ℕ → ℕ
cells_of w x = max 1 (w x)

-- r is the cells of x
pub record Cells (w : ℕ → ℕ) (x r : ℕ) : Type 0 where
  pub cells : r ≡ cells_of w x
  pub small : r ≤ 4

-- how many characters the row begins with that go into `room` cells
unfoldable pub fits : (ℕ → ℕ) → ℕ → List ℕ → ℕ
fits w room [] = 0
fits w room (x ∷ row) = cond (leb (cells_of w x) room) (suc (fits w (room - cells_of w x) row)) 0

-- r is that number
pub record Fitting (w : ℕ → ℕ) (room : ℕ) (row : List ℕ) (r : ℕ) : Type 0 where
  pub count : r ≡ fits w room row
  pub inside : r ≤ length row
