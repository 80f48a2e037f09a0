-- What the contracts of `src/white.rt` cite: white space. Document 01, "Character facts". Definitions only. Assumes nothing.
use Rattle.std.specs.Prelude.{ℕ, Bool, List, [], ◌∷◌}
use Rattle.ranges.specs.Ranges.{in_table}

-- document 01's list of ranges, each as its first code point and the first after it
unfoldable pub whites : List ℕ
whites =
    0x9 ∷ 0xe ∷ 0x20 ∷ 0x21 ∷ 0x85 ∷ 0x86 ∷ 0xa0 ∷ 0xa1 ∷ 0x1680 ∷ 0x1681 ∷
    0x2000 ∷ 0x200b ∷ 0x2028 ∷ 0x202a ∷ 0x202f ∷ 0x2030 ∷ 0x205f ∷ 0x2060 ∷ 0x3000 ∷ 0x3001 ∷ []

unfoldable pub is_white : ℕ → Bool
is_white x = in_table x whites
