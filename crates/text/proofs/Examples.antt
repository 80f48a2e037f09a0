-- Worked examples of the definitions, as theorems: each holds by computation.
-- The rows of a text, and what a text is refused for. Assumes nothing.
use Rattle.lists.proofs.Kit.{◌≡◌, refl, [], ◌∷◌}
use Rattle.lists.specs.Lists.{any}
use Rattle.text_check.specs.Accept.{text_refusal}
use Rattle.text.specs.Text.{on_first, rows, content_row_count}
use Rattle.text.specs.Offsets.{start_in, row_start}
use Rattle.text.specs.declared.Counted.TheVariants.{Refused}

-- `ab`, empty, `cd`, empty
pub rows_of_four : rows (97 ∷ 98 ∷ 10 ∷ 10 ∷ 99 ∷ 100 ∷ 10 ∷ []) ≡ (97 ∷ 98 ∷ []) ∷ [] ∷ (99 ∷ 100 ∷ []) ∷ [] ∷ []
unfolding rows on_first
rows_of_four = refl

pub third_of_four : row_start (97 ∷ 98 ∷ 10 ∷ 10 ∷ 99 ∷ 100 ∷ 10 ∷ []) 2 ≡ 4
unfolding rows on_first start_in
third_of_four = refl

-- the lowest number that applies
pub surrogate_before_break : content_row_count (97 ∷ 11 ∷ 0xd800 ∷ []) ≡ Refused 2
unfolding any text_refusal
surrogate_before_break = refl

pub carriage_return : content_row_count (97 ∷ 13 ∷ 10 ∷ []) ≡ Refused 3
unfolding any text_refusal
carriage_return = refl
