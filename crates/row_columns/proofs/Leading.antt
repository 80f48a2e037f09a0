-- The leading width of a row is a visual column, wherever a space is one cell. Assumes nothing.
use Rattle.lists.proofs.Kit.{◌≡◌, sym, ◌∙◌, List, [], ◌∷◌, cond, ◌||◌, ℕ, suc, ◌+◌, ◌-◌, ◌%◌, ℕ_discrete, arith, eqb, eq-eqb, ne_eqb}
use Rattle.row_tabs.specs.Indents.{leading_from}
use Rattle.row_tabs.proofs.Leading.{leading_space, leading_tab, leading_other, leading_none}
use Rattle.row_columns.specs.Columns.{visual_from}
use Rattle.row_columns.proofs.Visual.{visual_zero, visual_cons, visual_past}

-- how many spaces and tabs a row begins with
unfoldable pub blanks_of : List ℕ → ℕ
blanks_of [] = 0
blanks_of (x ∷ row) = cond (eqb x 32 || eqb x 9) (suc (blanks_of row)) 0

module _ (x : ℕ) (row : List ℕ) where
  blanks_space : x ≡ 32 → blanks_of (x ∷ row) ≡ suc (blanks_of row)
  unfolding blanks_of
  blanks_space e = rw (eq-eqb x 32 e)

  blanks_tab : x ≡ 9 → blanks_of (x ∷ row) ≡ suc (blanks_of row)
  unfolding blanks_of
  blanks_tab e = rw (ne_eqb x 32 (λ n. omega arith), eq-eqb x 9 e)

  blanks_other : (x ≡ 32 → ⊥) → (x ≡ 9 → ⊥) → blanks_of (x ∷ row) ≡ 0
  unfolding blanks_of
  blanks_other n m = rw (ne_eqb x 32 n, ne_eqb x 9 m)

-- where a space is one cell, the leading width is the visual column of the first character after the blanks
pub leading_visual : (w : ℕ → ℕ) (tab : ℕ) → w 32 ≡ 1 → (v : ℕ) (row : List ℕ) → leading_from tab v row ≡ visual_from w tab v row (blanks_of row)
leading_visual w tab one v [] = leading_none tab v ∙ sym (visual_past w tab v [] (blanks_of []) (omega arith) ∙ visual_zero w tab v [])
leading_visual w tab one v (x ∷ row) = go (ℕ_discrete x 32) (ℕ_discrete x 9) (λ u. leading_visual w tab one u row)
  where
    go : Dec (x ≡ 32) → Dec (x ≡ 9) → ((u : ℕ) → leading_from tab u row ≡ visual_from w tab u row (blanks_of row)) →
        leading_from tab v (x ∷ row) ≡ visual_from w tab v (x ∷ row) (blanks_of (x ∷ row))
    go (yes e) d rest = leading_space tab v x row e ∙ rest (v + 1) ∙ rw (blanks_space x row e, visual_cons, ne_eqb x 9 (λ n. omega arith), e, one)
    go (no n) (yes e) rest = leading_tab tab v x row e ∙ rest (v + (tab - v % tab)) ∙ rw (blanks_tab x row e, visual_cons, eq-eqb x 9 e)
    go (no n) (no m) rest = leading_other tab v x row n m ∙ rw (blanks_other x row n m, visual_zero)
