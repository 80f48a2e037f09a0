-- Motions by paragraphs, `{` and `}` of motions.rs.
-- Definitions only. Assumes nothing.
use Rattle.std.specs.Prelude.{ℕ, List}
use Rattle.text_moves.specs.declared.Way.TheVariants.{ParagraphPrev, ParagraphNext}
use Rattle.text_moves.specs.Ways.{gone}
use Rattle.motions.specs.declared.Caret.{Caret}
use Rattle.motions.specs.declared.Moved.{Moved}
use Rattle.motions.specs.Carets.{here, leads}

abbrev pub move_paragraph_prev : List ℕ → ℕ → Caret → Moved
move_paragraph_prev t n k = leads t k (gone t ParagraphPrev n (here k))

abbrev pub move_paragraph_next : List ℕ → ℕ → Caret → Moved
move_paragraph_next t n k = leads t k (gone t ParagraphNext n (here k))
