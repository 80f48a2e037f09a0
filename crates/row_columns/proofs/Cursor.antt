-- Where a cursor is drawn, over any width function w and tabstop. Assumes nothing.
use Rattle.lists.proofs.Kit.{◌≡◌, List, ℕ, ◌+◌, ◌-◌, ◌≤◌, ◌<◌, arith, length, get_or, get_or-eq_default, eq-eqb, ne_eqb}
use Rattle.row_columns.specs.Columns.{visual_from, cursor_from}
use Rattle.row_columns.proofs.Visual.{visual_step, tab_cells}

module _ (w : ℕ → ℕ) (tab : ℕ) (row : List ℕ) (i : ℕ) where
  pub cursor_past : length row ≤ i → {v : ℕ} → v ≡ visual_from w tab 0 row i → v ≡ cursor_from w tab row i
  cursor_past h k = rw (get_or-eq_default row 0 h) k

  pub cursor_other : (get_or row i 0 ≡ 9 → ⊥) → {v : ℕ} → v ≡ visual_from w tab 0 row i → v ≡ cursor_from w tab row i
  cursor_other n k = rw (ne_eqb _ 9 n) k

  pub cursor_tab : get_or row i 0 ≡ 9 → {v : ℕ} → v ≡ visual_from w tab 0 row (i + 1) → v - 1 ≡ cursor_from w tab row i
  cursor_tab e {v} k = rw (eq-eqb _ 9 e, k)

  -- after a tab at least one cell has passed
  pub tab_ends : i < length row → 0 < tab → get_or row i 0 ≡ 9 → visual_from w tab 0 row i < visual_from w tab 0 row (i + 1)
  tab_ends h p e = rw (visual_step w tab 0 row i h, e) (omega (arith, (tab_cells w tab p (visual_from w tab 0 row i)).0))
