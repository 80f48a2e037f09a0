-- Where two width functions agree on a row, its columns are the same. Assumes nothing.
use Rattle.lists.proofs.Kit.{◌≡◌, refl, ap, List, [], ◌∷◌, cond, ◌||◌, ℕ, zero, suc, ◌+◌, eqb, leb}
use Rattle.row_tabs.specs.Cells.{stop_of, cells_at}
use Rattle.row_columns.specs.Columns.{visual_from, visual_col, char_from, char_col, cursor_col}
use Rattle.width_laws.proofs.Agree.{Agree}

module _ (w v : ℕ → ℕ) where
  cells_same : (tab at x : ℕ) → w x ≡ v x → cells_at w tab at x ≡ cells_at v tab at x
  cells_same tab at x e = rw e

  visual_from_lem : (tab at : ℕ) (row : List ℕ) (i : ℕ) → Agree w v row → visual_from w tab at row i ≡ visual_from v tab at row i
  unfolding visual_from
  visual_from_lem tab at [] i a = refl
  visual_from_lem tab at (x ∷ row) zero a = refl
  visual_from_lem tab at (x ∷ row) (suc i) a = rw (cells_same tab at x a.0) (visual_from_lem tab (at + cells_at v tab at x) row i a.1)

  char_from_lem : (tab at : ℕ) (row : List ℕ) (c : ℕ) → Agree w v row → char_from w tab at row c ≡ char_from v tab at row c
  unfolding char_from
  char_from_lem tab at [] c a = refl
  char_from_lem tab at (x ∷ row) c a = rw (cells_same tab at x a.0)
      (ap (λ (n : ℕ). cond (eqb (cells_at v tab at x) 0 || leb (at + cells_at v tab at x) c) (suc n) 0) (char_from_lem tab (at + cells_at v tab at x) row c a.1))

  module _ (tabstop : ℕ) (row : List ℕ) (a : Agree w v row) where
    pub visual_same : (i : ℕ) → visual_col w tabstop row i ≡ visual_col v tabstop row i
    visual_same i = visual_from_lem (stop_of tabstop) 0 row i a

    pub char_same : (c : ℕ) → char_col w tabstop row c ≡ char_col v tabstop row c
    char_same c = ap (λ (n : ℕ). cond (eqb c 0) 0 n) (char_from_lem (stop_of tabstop) 0 row c a)

    pub cursor_same : (i : ℕ) → cursor_col w tabstop row i ≡ cursor_col v tabstop row i
    cursor_same i = rw (visual_same (i + 1), visual_same i)
