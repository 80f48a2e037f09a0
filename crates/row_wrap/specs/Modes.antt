-- The modes of wrapping, and the segments that each gives, over any width function w and test of white space. From `wrap.rs`.
-- Cited by the contracts of `src/breaks.rt`. Definitions only. Assumes nothing.
use Rattle.std.specs.Prelude.{ℕ, List, [], ◌∷◌, Bool, true, false, cond, ◌||◌, length, eqb}
use Rattle.row_wrap.specs.declared.Wrap.{Wrap}
use Rattle.row_wrap.specs.declared.Wrap.TheVariants.{None, Char, Word}
use Rattle.row_wrap.specs.Segments.{segments_from}

abbrev pub is_none : Wrap → Bool
is_none None = true
is_none Char = false
is_none Word = false

abbrev pub is_word : Wrap → Bool
is_word None = false
is_word Char = false
is_word Word = true

-- mode None, width 0 and an empty row give the one segment
abbrev pub is_whole : Wrap → ℕ → ℕ → Bool
is_whole mode width count = is_none mode || (eqb width 0 || eqb count 0)

unfoldable pub segments_of : (ℕ → ℕ) → (ℕ → Bool) → Wrap → ℕ → List ℕ → List ℕ
segments_of w white mode width row =
    cond (is_whole mode width (length row)) (0 ∷ length row ∷ []) (segments_from w white (is_word mode) width 0 0 row)
