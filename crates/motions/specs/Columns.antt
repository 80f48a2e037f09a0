-- Motions within a row, as motions.rs has them under "Horizontal motions".
-- Definitions only. Assumes nothing.
use Rattle.std.specs.Prelude.{ℕ, List}
use Rattle.text_moves.specs.declared.Way.TheVariants.{Left, RightInLine, RightToEnd, LineStart, LineEnd, GotoColumn, FirstNonBlank, LastNonBlank}
use Rattle.text_moves.specs.Ways.{gone}
use Rattle.motions.specs.declared.Caret.{Caret}
use Rattle.motions.specs.declared.Moved.{Moved}
use Rattle.motions.specs.Carets.{here, leads}

abbrev pub move_left : List ℕ → ℕ → Caret → Moved
move_left t n k = leads t k (gone t Left n (here k))

abbrev pub move_right_in_line : List ℕ → ℕ → Caret → Moved
move_right_in_line t n k = leads t k (gone t RightInLine n (here k))

abbrev pub move_right_to_end : List ℕ → ℕ → Caret → Moved
move_right_to_end t n k = leads t k (gone t RightToEnd n (here k))

abbrev pub move_line_start : List ℕ → Caret → Moved
move_line_start t k = leads t k (gone t LineStart 1 (here k))

abbrev pub move_line_end : List ℕ → Caret → Moved
move_line_end t k = leads t k (gone t LineEnd 1 (here k))

abbrev pub move_goto_column : List ℕ → ℕ → Caret → Moved
move_goto_column t n k = leads t k (gone t GotoColumn n (here k))

abbrev pub move_first_non_blank : List ℕ → Caret → Moved
move_first_non_blank t k = leads t k (gone t FirstNonBlank 1 (here k))

abbrev pub move_last_non_blank : List ℕ → Caret → Moved
move_last_non_blank t k = leads t k (gone t LastNonBlank 1 (here k))
