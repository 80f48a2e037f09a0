-- Worked examples of the definitions, as theorems: each holds by computation.
-- `_` from the last empty row, and from outside the text. Assumes nothing.
use Rattle.lists.proofs.Kit.{◌≡◌, refl, [], ◌∷◌, ℕ, None}
use Rattle.lists.specs.Lists.{any}
use Rattle.text_check.specs.Accept.{text_refusal}
use Rattle.text.specs.Text.{on_first, rows}
use Rattle.text.specs.Offsets.{start_in}
use Rattle.margins.specs.Margins.{indent_of}
use Rattle.positions.specs.Positions.{position_refusal, lowest}
use Rattle.motions.specs.declared.Caret.{Caret}
use Rattle.motions.specs.declared.Moved.TheVariants.{To, Refused}
use Rattle.motions.specs.Carets.{moving, caret_at}
use Rattle.motions.specs.Lines.{move_first_non_blank_line}

-- a caret with no sticky column and no offset
abbrev pub at : ℕ → ℕ → Caret
at r c = caret_at r c None

-- `a` and a separator: `_` from the last empty row goes up; one row further the caret is refused
pub line_from_last : move_first_non_blank_line (97 ∷ 10 ∷ []) 1 (at 1 0) ≡ To (at 0 0)
unfolding any text_refusal on_first rows start_in position_refusal lowest moving indent_of
line_from_last = refl

pub line_from_outside : move_first_non_blank_line (97 ∷ 10 ∷ []) 1 (at 2 0) ≡ Refused 4
unfolding any text_refusal on_first rows start_in position_refusal lowest moving indent_of
line_from_outside = refl
