-- Motions to rows that begin with `{` or `}`, as motions.rs has them.
-- Definitions only. Assumes nothing.
use Rattle.std.specs.Prelude.{ℕ, List}
use Rattle.text_moves.specs.declared.Way.TheVariants.{SectionBackward, SectionForward, SectionEndBackward, SectionEndForward}
use Rattle.text_moves.specs.Ways.{gone}
use Rattle.motions.specs.declared.Caret.{Caret}
use Rattle.motions.specs.declared.Moved.{Moved}
use Rattle.motions.specs.Carets.{here, leads}

abbrev pub move_section_backward : List ℕ → ℕ → Caret → Moved
move_section_backward t n k = leads t k (gone t SectionBackward n (here k))

abbrev pub move_section_forward : List ℕ → ℕ → Caret → Moved
move_section_forward t n k = leads t k (gone t SectionForward n (here k))

abbrev pub move_section_end_backward : List ℕ → ℕ → Caret → Moved
move_section_end_backward t n k = leads t k (gone t SectionEndBackward n (here k))

abbrev pub move_section_end_forward : List ℕ → ℕ → Caret → Moved
move_section_end_forward t n k = leads t k (gone t SectionEndForward n (here k))
