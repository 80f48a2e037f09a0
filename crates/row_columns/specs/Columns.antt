-- What the contracts of `src/lib.rt` cite: the cells of a row's characters, over any width function w.
-- From `geom.rs` and document 01, "Character facts". Definitions only; the laws are in `proofs/`. Assumes nothing.
use Rattle.std.specs.Prelude.{ℕ, zero, suc, ◌+◌, ◌-◌, List, [], ◌∷◌, cond, ◌||◌, get_or, eqb, leb}
use Rattle.row_tabs.specs.Cells.{stop_of, cells_at}

-- the visual column of character i of a row that begins at v, or where the row ends
unfoldable pub visual_from : (ℕ → ℕ) → ℕ → ℕ → List ℕ → ℕ → ℕ
visual_from w tab v [] i = v
visual_from w tab v (x ∷ row) zero = v
visual_from w tab v (x ∷ row) (suc i) = visual_from w tab (v + cells_at w tab v x) row i

abbrev pub visual_col : (ℕ → ℕ) → ℕ → List ℕ → ℕ → ℕ
visual_col w tabstop row i = visual_from w (stop_of tabstop) 0 row i

-- the character that holds visual column c in a row that begins at v, or the count: one with no cells is passed over
unfoldable pub char_from : (ℕ → ℕ) → ℕ → ℕ → List ℕ → ℕ → ℕ
char_from w tab v [] c = 0
char_from w tab v (x ∷ row) c =
    let cells = cells_at w tab v x in
    cond (eqb cells 0 || leb (v + cells) c) (suc (char_from w tab (v + cells) row c)) 0

-- visual column 0 is character 0, whatever its width
abbrev pub char_col : (ℕ → ℕ) → ℕ → List ℕ → ℕ → ℕ
char_col w tabstop row c = cond (eqb c 0) 0 (char_from w (stop_of tabstop) 0 row c)

-- where a cursor on character i is drawn: the last cell of a tab, the first of any other
abbrev pub cursor_from : (ℕ → ℕ) → ℕ → List ℕ → ℕ → ℕ
cursor_from w tab row i = cond (eqb (get_or row i 0) 9) (visual_from w tab 0 row (i + 1) - 1) (visual_from w tab 0 row i)

abbrev pub cursor_col : (ℕ → ℕ) → ℕ → List ℕ → ℕ → ℕ
cursor_col w tabstop row i = cursor_from w (stop_of tabstop) row i
