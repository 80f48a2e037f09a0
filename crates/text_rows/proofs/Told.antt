-- What is known where rows are told: the three answers follow. Assumes nothing.
use Rattle.lists.proofs.Kit.{◌≡◌, refl, sym, ◌∙◌, List, true, cond, ℕ, ◌≤◌, arith, length, take, eqb, eqb-true, le-ltb}
use Rattle.lists.specs.Lists.{is_same}
use Rattle.lists.proofs.Both.{both}
use Rattle.text_check.specs.Accept.{text_refusal}
use Rattle.text.specs.Text.{row_count, content_rows}
use Rattle.row_table.specs.Table.{row_starts, holds_rows, table_refusal}
use Rattle.text_rows.specs.Pass.{Tells, found_in}

module _ (t starts : List ℕ) where
  pub tells_none : Tells t starts 0
  tells_none = record { accepted = λ some. absurd (some refl); held = λ some. absurd (some refl); room = λ some. absurd (some refl) }

  module _ (rows : ℕ) where
    pub tells_rows : text_refusal t ≡ 0 → holds_rows t rows starts ≡ true → rows ≤ length starts → Tells t starts rows
    tells_rows clear held room = record { accepted = λ some. clear; held = λ some. held; room = λ some. room }

    pub held_count : holds_rows t rows starts ≡ true → rows ≡ row_count t
    held_count held = eqb-true rows (row_count t) (both _ _ held).0

    -- the answers, where g is the table's number
    module _ (told : Tells t starts rows) (some : rows ≡ 0 → ⊥) where
      pub told_count : rows ≡ row_count t
      told_count = held_count (told.held some)

      number : (content g : ℕ) → g ≡ cond (eqb content (content_rows t)) 0 16 → g ≡ table_refusal (row_count t) t starts content
      unfolding table_refusal
      number content g e = e ∙ sym (rw (
        le-ltb (length starts) (row_count t) (omega (arith, told.room some, told_count)),
        (both (eqb rows (row_count t)) (is_same
            (take (row_count t) starts) (row_starts t)) (told.held some)).1,
      ))

      pub told_found : (content g : ℕ) → g ≡ cond (eqb content (content_rows t)) 0 16 → record { refusal = 0; rows = rows; table = g } ≡ found_in t starts content
      told_found content g e i = record { refusal = sym (told.accepted some) i; rows = told_count i; table = number content g e i }
