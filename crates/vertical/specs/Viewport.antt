-- The rows that the viewport motions lead to, as motions.rs computes them under "Viewport-relative motions". Numbers don't wrap here.
-- Definitions only. Assumes nothing.
use Rattle.std.specs.Prelude.{ℕ, ◌+◌, ◌-◌, ◌/◌, min, max, ◌≡◌, List}
use Rattle.text.specs.Text.{row_count, content_rows, last_row}
use Rattle.vertical.specs.declared.Edge.{Edge}
use Rattle.vertical.specs.declared.Edge.TheVariants.{Top, Middle, Bottom}

-- what the motions require of the counts that they are given: the rows of the text, and those with content
pub record Counts (t : List ℕ) (rows content : ℕ) : Type 0 where
  pub all_rows : rows ≡ row_count t
  pub content_rows : content ≡ content_rows t

-- the last row that a viewport shows; a height of 0 acts as 1
abbrev pub bottom_row : List ℕ → ℕ → ℕ → ℕ
bottom_row t top height = min (top + (height - 1)) (last_row t)

-- `H`, `M` and `L`
abbrev pub top_row : List ℕ → ℕ → ℕ → ℕ
top_row t top offset = min (top + offset) (last_row t)

abbrev pub middle_row : List ℕ → ℕ → ℕ → ℕ
middle_row t top height = min (top + (bottom_row t top height - top) / 2) (last_row t)

abbrev pub base_row : List ℕ → ℕ → ℕ → ℕ → ℕ
base_row t top height offset = min (max (bottom_row t top height - offset) top) (last_row t)

abbrev pub viewport_row : Edge → List ℕ → ℕ → ℕ → ℕ → ℕ
viewport_row Top t top height offset = top_row t top offset
viewport_row Middle t top height offset = middle_row t top height
viewport_row Bottom t top height offset = base_row t top height offset
