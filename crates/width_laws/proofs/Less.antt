-- Where one width function is nowhere above another, neither are the columns and cells of a row. Assumes nothing.
use Rattle.lists.proofs.Kit.{◌≡◌, ap, ◌∙◌, List, [], ◌∷◌, Bool, true, false, cond, ℕ, zero, suc, ◌+◌, ◌-◌, ◌*◌, ◌/◌, ◌%◌, ◌≤◌, ◌<◌, mod-lt, div-add-mod', dec_lt}
use Rattle.lists.proofs.Kit.{arith, get_or, eqb}
use lib.Arith.{digits_mod}
use Rattle.row_tabs.specs.Cells.{stop_of, cells_at}
use Rattle.row_tabs.proofs.Accepted.{stop_pos}
use Rattle.row_columns.specs.Columns.{visual_from, visual_col, cursor_col}
use Rattle.row_cells.specs.Offsets.{cells_in}

-- a tab that begins later ends no earlier
tab_later : (tab a b : ℕ) → 0 < tab → a ≤ b → a + (tab - a % tab) ≤ b + (tab - b % tab)
tab_later tab a b p h = go (dec_lt b (a + (tab - a % tab)))
  where
    -- b lies before the end of the tab from a
    near : b < a + (tab - a % tab) → b % tab ≡ a % tab + (b - a)
    near l =
        let sum_below : a % tab + (b - a) < tab = omega (arith, mod-lt a p) in
        let b_is : b ≡ a / tab * tab + (a % tab + (b - a)) = omega (arith, div-add-mod' a tab) in
        ap (λ (n : ℕ). n % tab) b_is ∙ digits_mod (a / tab) sum_below

    go : Dec (b < a + (tab - a % tab)) → a + (tab - a % tab) ≤ b + (tab - b % tab)
    go (yes l) = omega (arith, near l, mod-lt a p, mod-lt b p)
    go (no l) = omega (arith, mod-lt b p)

module _ {w v : ℕ → ℕ} (least : (x : ℕ) → w x ≤ v x) where
  cell_less : (tab a b x : ℕ) → 0 < tab → a ≤ b → a + cells_at w tab a x ≤ b + cells_at v tab b x
  cell_less tab a b x p h = go (eqb x 9)
    where
      go : (tabbed : Bool) → a + cond tabbed (tab - a % tab) (w x) ≤ b + cond tabbed (tab - b % tab) (v x)
      go true = tab_later tab a b p h
      go false = omega (arith, least x)

  visual_less : (tab a b : ℕ) (row : List ℕ) (i : ℕ) → 0 < tab → a ≤ b → visual_from w tab a row i ≤ visual_from v tab b row i
  unfolding visual_from
  visual_less tab a b [] i p h = h
  visual_less tab a b (x ∷ row) zero p h = h
  visual_less tab a b (x ∷ row) (suc i) p h = visual_less tab (a + cells_at w tab a x) (b + cells_at v tab b x) row i p (cell_less tab a b x p h)

  pub column_less : (tabstop : ℕ) (row : List ℕ) (i : ℕ) → visual_col w tabstop row i ≤ visual_col v tabstop row i
  column_less tabstop row i = visual_less (stop_of tabstop) 0 0 row i (stop_pos tabstop) (omega arith)

  pub cursor_less : (tabstop : ℕ) (row : List ℕ) (i : ℕ) → cursor_col w tabstop row i ≤ cursor_col v tabstop row i
  cursor_less tabstop row i = go (eqb (get_or row i 0) 9)
    where
      go : (tabbed : Bool) → cond tabbed (visual_col w tabstop row (i + 1) - 1) (visual_col w tabstop row i) ≤ cond tabbed (visual_col v tabstop row (i + 1) - 1)
          (visual_col v tabstop row i)
      go true = omega (arith, column_less tabstop row (i + 1))
      go false = column_less tabstop row i

  pub cells_less : (row : List ℕ) → cells_in w row ≤ cells_in v row
  unfolding cells_in
  cells_less [] = omega arith
  cells_less (x ∷ row) = omega (arith, least x, cells_less row)
