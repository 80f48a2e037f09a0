-- The rows that have one segment: mode None, width 0, an empty row. Each holds by computation. Assumes nothing.
use Rattle.lists.proofs.Kit.{◌≡◌, refl, List, [], ◌∷◌, ℕ}
use Rattle.chars.specs.White.{whites, is_white}
use Rattle.chars.specs.Width.{zero_widths, double_widths, width_by, width_of}
use Rattle.row_wrap.specs.declared.Wrap.{Wrap}
use Rattle.row_wrap.specs.declared.Wrap.TheVariants.{None, Char, Word}
use Rattle.row_cells.specs.Cells.{fits}
use Rattle.row_segment.specs.Segments.{after_white, first_segment}
use Rattle.row_wrap.specs.Segments.{segments_from}
use Rattle.row_wrap.specs.Modes.{segments_of}

-- by today's tables
abbrev wrapped : Wrap → ℕ → List ℕ → List ℕ
wrapped mode width row = segments_of width_of is_white mode width row

-- `ab cd`
abbrev words : List ℕ
words = 97 ∷ 98 ∷ 32 ∷ 99 ∷ 100 ∷ []

-- the one segment
pub whole : (wrapped None 4 words ≡ 0 ∷ 5 ∷ []) × (wrapped Char 0 words ≡ 0 ∷ 5 ∷ []) × (wrapped Word 4 [] ≡ 0 ∷ 0 ∷ [])
unfolding segments_of segments_from first_segment after_white fits whites is_white zero_widths double_widths width_by width_of
whole = (refl, refl, refl)
