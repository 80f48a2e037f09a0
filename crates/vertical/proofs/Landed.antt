-- Where a vertical motion lands: the row stays, or another is reached. Assumes nothing.
use Rattle.lists.proofs.Kit.{◌≡◌, refl, ap, ◌∙◌, List, ℕ, eq-eqb, ne_eqb}
use lib.IntN.{ℤ}
use Rattle.vertical.specs.Moves.{landed, aimed_col}
use Rattle.visible_rows.specs.Visible.{vertical_row}

-- the row that is reached, from what the calls hand on
pub reached : (folds : List ℕ) (row : ℕ) {m n : ℕ} {y z : ℤ} → m ≡ n → y ≡ z → vertical_row folds m y row ≡ vertical_row folds n z row
reached folds row {m} {n} {y} {z} e q = ap (λ (k : ℕ). vertical_row folds k y row) e ∙ ap (λ (x : ℤ). vertical_row folds n x row) q

module _ (w : ℕ → ℕ) (t : List ℕ) (tabstop row col : ℕ) {want v target r : ℕ} (e : v ≡ want) (q : r ≡ target) where
  pub stays_is : r ≡ row → record { row = row; col = col; want = v } ≡ landed w t tabstop want row col target
  unfolding landed
  stays_is h = rw (← e, ← q, h, eq-eqb row row refl)

  pub lands_is : {c : ℕ} → (r ≡ row → ⊥) → c ≡ aimed_col w t tabstop v r → record { row = r; col = c; want = v } ≡ landed w t tabstop want row col target
  unfolding landed
  lands_is n s = rw (← e, ← q, ne_eqb r row n, s)
