-- Where the table is the text's, the second entry of a motion answers what the first does, for all motions. Assumes nothing.
use Rattle.lists.proofs.Kit.{◌≡◌, refl, List, ℕ, eq-eqb}
use Rattle.text.specs.Text.{row_count}
use Rattle.row_table.specs.Table.{table_refusal}
use Rattle.motions.specs.declared.Caret.{Caret}
use Rattle.motions.specs.declared.Move.{Move}
use Rattle.motions.specs.declared.Sought.{Sought}
use Rattle.motions.specs.declared.Sought.TheVariants.{Found, Missing, Refused}
use Rattle.motions.specs.Going.{goes}
use Rattle.motion_rows.specs.Going.{or_table, goes_rows}

pub or_none : {g : ℕ} → g ≡ 0 → (r : Sought) → or_table g r ≡ r
unfolding or_table
or_none {g} z (Refused f) = refl
or_none {g} z (Found k) = rw (eq-eqb g 0 z)
or_none {g} z (Missing k) = rw (eq-eqb g 0 z)

module _ (t starts : List ℕ) (content : ℕ) (z : table_refusal (row_count t) t starts content ≡ 0) where
  pub second_first : (folds list : List ℕ) (tabstop : ℕ) (m : Move) (n : ℕ) (k : Caret) →
      goes_rows t starts content folds list tabstop m n k ≡ goes t folds list tabstop m n k
  second_first folds list tabstop m n k = or_none z (goes t folds list tabstop m n k)
