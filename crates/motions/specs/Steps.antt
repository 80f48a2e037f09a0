-- `<Space>` and `<BS>`: one character on or back, from row to row, as motions.rs has them.
-- Definitions only. Assumes nothing.
use Rattle.std.specs.Prelude.{ℕ, List}
use Rattle.text_moves.specs.declared.Way.TheVariants.{SpaceFwd, BackspaceBack}
use Rattle.text_moves.specs.Ways.{gone}
use Rattle.motions.specs.declared.Caret.{Caret}
use Rattle.motions.specs.declared.Moved.{Moved}
use Rattle.motions.specs.Carets.{here, leads}

abbrev pub move_space_fwd : List ℕ → ℕ → Caret → Moved
move_space_fwd t n k = leads t k (gone t SpaceFwd n (here k))

abbrev pub move_backspace_back : List ℕ → ℕ → Caret → Moved
move_backspace_back t n k = leads t k (gone t BackspaceBack n (here k))
