-- What is known of a row and a tabstop that are not refused, and the cells of a character. Assumes nothing.
use Rattle.lists.proofs.Kit.{◌≡◌, List, ℕ, zero, suc, ◌-◌, ◌%◌, ◌≤◌, ◌<◌, dec_le, ℕ_discrete, arith, length, eq-eqb, ne_eqb, lt-ltb}
use Rattle.row_check.specs.Row.{row_refusal}
use Rattle.row_check.proofs.Answers.{accepted_brief}
use Rattle.row_tabs.specs.Cells.{column_refusal, stop_of, cells_at, Stop}

-- a tabstop is at least 1, and no larger than it was given, but for 0
pub stop_pos : (tabstop : ℕ) → 0 < stop_of tabstop
unfolding stop_of
stop_pos zero = omega arith
stop_pos (suc n) = rw (ne_eqb (suc n) 0 (λ e. omega arith)) (omega arith)

pub stop_most : (tabstop n : ℕ) → 0 < n → tabstop ≤ n → stop_of tabstop ≤ n
unfolding stop_of
stop_most zero n h k = h
stop_most (suc t) n h k = rw (ne_eqb (suc t) 0 (λ e. omega arith)) k

pub stop_near : (tabstop : ℕ) {tab : ℕ} → tabstop ≤ 1000 → tab ≡ stop_of tabstop → Stop tab
stop_near tabstop h e = rw e (record { some = stop_pos tabstop; near = stop_most tabstop 1000 (omega arith) h })

module _ (w : ℕ → ℕ) (tab : ℕ) where
  pub cells_tab : (v x : ℕ) → x ≡ 9 → cells_at w tab v x ≡ tab - v % tab
  cells_tab v x e = rw (eq-eqb x 9 e)

  pub cells_other : (v x : ℕ) → (x ≡ 9 → ⊥) → cells_at w tab v x ≡ w x
  cells_other v x e = rw (ne_eqb x 9 e)

row_first : (row : List ℕ) (tabstop : ℕ) → (row_refusal row ≡ 0 → ⊥) → column_refusal row tabstop ≡ row_refusal row
unfolding column_refusal
row_first row tabstop n = rw (ne_eqb (row_refusal row) 0 n)

tabstop_next : (row : List ℕ) (tabstop : ℕ) → row_refusal row ≡ 0 → 1000 < tabstop → column_refusal row tabstop ≡ 6
unfolding column_refusal
tabstop_next row tabstop e h = rw (eq-eqb (row_refusal row) 0 e, lt-ltb 1000 tabstop h)

module _ (row : List ℕ) (tabstop : ℕ) {f : ℕ} (given : f ≡ column_refusal row tabstop) (none : f ≡ 0) where
  row_accepted : row_refusal row ≡ 0
  row_accepted = go (ℕ_discrete (row_refusal row) 0)
    where
      go : Dec (row_refusal row ≡ 0) → row_refusal row ≡ 0
      go (yes e) = e
      go (no n) = omega (arith, row_first row tabstop n)

  pub near : tabstop ≤ 1000
  near = go (dec_le tabstop 1000)
    where
      go : Dec (tabstop ≤ 1000) → tabstop ≤ 1000
      go (yes h) = h
      go (no h) = absurd (omega (arith, tabstop_next row tabstop row_accepted (omega arith)))

  pub brief : length row ≤ 1048576
  brief = accepted_brief row row_accepted

  pub stops : {tab : ℕ} → tab ≡ stop_of tabstop → Stop tab
  stops e = stop_near tabstop near e
