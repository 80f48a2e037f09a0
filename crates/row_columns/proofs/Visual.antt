-- Laws of visual columns, over any width function w and tabstop. Assumes nothing.
use Rattle.lists.proofs.Kit.{◌≡◌, refl, sym, ap, ◌∙◌, List, [], ◌∷◌, ℕ, zero, suc, ◌+◌, ◌*◌, ◌≤◌, ◌<◌, mod-lt, le_of_suc-le-suc, add-one, ℕ_discrete, arith}
use Rattle.lists.proofs.Kit.{length, get_or}
use Rattle.row_tabs.specs.Cells.{cells_at}
use Rattle.row_tabs.proofs.Accepted.{cells_tab, cells_other}
use Rattle.row_columns.specs.Columns.{visual_from}

module _ (w : ℕ → ℕ) (tab : ℕ) where
  -- a tab has a cell, and at most as many as the tabstop says
  pub tab_cells : 0 < tab → (v : ℕ) → (0 < cells_at w tab v 9) × (cells_at w tab v 9 ≤ tab)
  tab_cells h v = (omega (arith, mod-lt v {m = tab} h), omega arith)

  -- no character has more than b cells, where no width and no tabstop is above b
  pub cells_most : (b : ℕ) → ((x : ℕ) → w x ≤ b) → tab ≤ b → (v x : ℕ) → cells_at w tab v x ≤ b
  cells_most b wide near v x = go (ℕ_discrete x 9)
    where
      go : Dec (x ≡ 9) → cells_at w tab v x ≤ b
      go (yes e) = rw (cells_tab w tab v x e) (omega arith)
      go (no e) = rw (cells_other w tab v x e) (wide x)

  -- past the row's end: where it ends
  pub visual_past : (v : ℕ) (row : List ℕ) (i : ℕ) → length row ≤ i → visual_from w tab v row i ≡ visual_from w tab v row (length row)
  unfolding visual_from
  visual_past v [] i h = refl
  visual_past v (x ∷ row) zero h = absurd (omega arith)
  visual_past v (x ∷ row) (suc i) h = visual_past (v + cells_at w tab v x) row i (le_of_suc-le-suc h)

  pub visual_zero : (v : ℕ) (row : List ℕ) → visual_from w tab v row 0 ≡ v
  unfolding visual_from
  visual_zero v [] = refl
  visual_zero v (x ∷ row) = refl

  pub visual_cons : (v x : ℕ) (row : List ℕ) (i : ℕ) → visual_from w tab v (x ∷ row) (suc i) ≡ visual_from w tab (v + cells_at w tab v x) row i
  unfolding visual_from
  visual_cons v x row i = refl

  -- the next character stands after the cells of this one
  visual_suc : (v : ℕ) (row : List ℕ) (i : ℕ) → i < length row →
      visual_from w tab v row (suc i) ≡ visual_from w tab v row i + cells_at w tab (visual_from w tab v row i) (get_or row i 0)
  unfolding visual_from
  visual_suc v [] i h = absurd (omega arith)
  visual_suc v (x ∷ row) zero h = visual_zero (v + cells_at w tab v x) row
  visual_suc v (x ∷ row) (suc i) h = visual_suc (v + cells_at w tab v x) row i (le_of_suc-le-suc h)

  pub visual_step : (v : ℕ) (row : List ℕ) (i : ℕ) → i < length row →
      visual_from w tab v row (i + 1) ≡ visual_from w tab v row i + cells_at w tab (visual_from w tab v row i) (get_or row i 0)
  visual_step v row i h = rw (add-one i) (visual_suc v row i h)

  -- visual columns never fall
  visual_from_lem : (v : ℕ) (row : List ℕ) (i : ℕ) → v ≤ visual_from w tab v row i
  unfolding visual_from
  visual_from_lem v [] i = omega arith
  visual_from_lem v (x ∷ row) zero = omega arith
  visual_from_lem v (x ∷ row) (suc i) = omega (arith, visual_from_lem (v + cells_at w tab v x) row i)

  pub visual_rises : (v : ℕ) (row : List ℕ) (i j : ℕ) → i ≤ j → visual_from w tab v row i ≤ visual_from w tab v row j
  unfolding visual_from
  visual_rises v [] i j h = omega arith
  visual_rises v (x ∷ row) zero j h = visual_from_lem v (x ∷ row) j
  visual_rises v (x ∷ row) (suc i) zero h = absurd (omega arith)
  visual_rises v (x ∷ row) (suc i) (suc j) h = visual_rises (v + cells_at w tab v x) row i j (le_of_suc-le-suc h)

  -- a bound that fits: b cells for each character before it, and for each of the row
  pub visual_most : (b : ℕ) → ((x : ℕ) → w x ≤ b) → tab ≤ b → (v : ℕ) (row : List ℕ) (i : ℕ) → visual_from w tab v row i ≤ v + b * i
  unfolding visual_from
  visual_most b wide near v [] i = omega arith
  visual_most b wide near v (x ∷ row) zero = omega arith
  visual_most b wide near v (x ∷ row) (suc i) = omega (arith, cells_most b wide near v x, visual_most b wide near (v + cells_at w tab v x) row i)

-- the walk over a row, before character i: its visual column, and a bound that fits a u32
pub record VisualTo (w : ℕ → ℕ) (tab : ℕ) (row : List ℕ) (i visual : ℕ) : Type 0 where
  pub inside : i ≤ length row
  pub here : visual ≡ visual_from w tab 0 row i
  pub fits : visual ≤ 1000 * i

pub visual_start : (w : ℕ → ℕ) (tab : ℕ) (row : List ℕ) → VisualTo w tab row 0 0
visual_start w tab row = record { inside = omega arith; here = sym (visual_zero w tab 0 row); fits = omega arith }

module _ {w : ℕ → ℕ} {tab : ℕ} {row : List ℕ} {i visual : ℕ} (so_far : VisualTo w tab row i visual) where
  pub visual_on : {cells : ℕ} → i < length row → cells ≡ cells_at w tab visual (get_or row i 0) → cells ≤ 1000 → VisualTo w tab row (i + 1) (visual + cells)
  visual_on {cells} h e most =
      let its_here = so_far.here in
      let step = visual_step w tab 0 row i h in
      record { inside = omega arith; here = rw (step, ← its_here, ← e); fits = omega (arith, so_far.fits) }

  pub visual_stop : (col : ℕ) → i ≡ col → visual ≡ visual_from w tab 0 row col
  visual_stop col e = so_far.here ∙ ap (visual_from w tab 0 row) e

  pub visual_end : (col : ℕ) → length row ≤ i → i ≤ col → visual ≡ visual_from w tab 0 row col
  visual_end col h k =
      let i_is : i ≡ length row = omega (arith, so_far.inside) in
      so_far.here ∙ ap (visual_from w tab 0 row) i_is ∙ sym (visual_past w tab 0 row col (omega arith))
