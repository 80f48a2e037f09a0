-- A row of a wide character and `ab`, in one segment: `b` is 2 characters behind its start, and 3 cells. It holds by computation. Assumes nothing.
use Rattle.lists.proofs.Kit.{◌≡◌, refl, [], ◌∷◌}
use Rattle.chars.specs.Width.{zero_widths, double_widths, width_by, width_of}
use Rattle.row_cells.specs.Offsets.{cells_in, pairs_before}
use Rattle.screen_segments.specs.Parts.{offset_in}

pub characters_behind : offset_in (0 ∷ 3 ∷ []) (0x3042 ∷ 97 ∷ 98 ∷ []) 2 ≡ 2
unfolding zero_widths double_widths width_by width_of cells_in pairs_before
characters_behind = refl
