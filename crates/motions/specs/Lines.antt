-- Motions to the first character of a row that is no blank: `+`, `-`, `_`, `gg` and `G`, as motions.rs has them.
-- Definitions only. Assumes nothing.
use Rattle.std.specs.Prelude.{ℕ, List}
use Rattle.text_moves.specs.declared.Way.TheVariants.{Top, Bottom, NextLine, PrevLine, ThisLine}
use Rattle.text_moves.specs.Ways.{gone}
use Rattle.motions.specs.declared.Caret.{Caret}
use Rattle.motions.specs.declared.Moved.{Moved}
use Rattle.motions.specs.Carets.{here, leads}

abbrev pub move_top : List ℕ → Caret → Moved
move_top t k = leads t k (gone t Top 1 (here k))

abbrev pub move_bottom : List ℕ → ℕ → Caret → Moved
move_bottom t n k = leads t k (gone t Bottom n (here k))

abbrev pub move_first_non_blank_next_line : List ℕ → ℕ → Caret → Moved
move_first_non_blank_next_line t n k = leads t k (gone t NextLine n (here k))

abbrev pub move_first_non_blank_prev_line : List ℕ → ℕ → Caret → Moved
move_first_non_blank_prev_line t n k = leads t k (gone t PrevLine n (here k))

abbrev pub move_first_non_blank_line : List ℕ → ℕ → Caret → Moved
move_first_non_blank_line t n k = leads t k (gone t ThisLine n (here k))
