-- A small table of its own by starts and lengths, as a statement; its proof is `worked` in `proofs/Worked.antt`. A length has 16 bits: a range of
-- 65,536 numbers is cut to 0, which the rule refuses. Assumes nothing.
use Rattle.std.specs.Prelude.{◌≡◌, true, false, List, [], ◌∷◌, ℕ, T}
use Rattle.ranges.specs.Ranges.{in_table}
use Rattle.ranges.specs.Lengths.{bounds_of, apart}

-- the longest range that a length can have, and a range of one number
abbrev pub starts : List ℕ
starts = 0x10000 ∷ 0x20000 ∷ []

abbrev pub lengths : List ℕ
lengths = 65535 ∷ 1 ∷ []

pub record Worked : Type 0 where
  pub rule : T (apart starts lengths)
  -- the first and the last number of the long range, and the one between the two ranges
  pub first : in_table 0x10000 (bounds_of starts lengths) ≡ true
  pub last : in_table 0x1fffe (bounds_of starts lengths) ≡ true
  pub between : in_table 0x1ffff (bounds_of starts lengths) ≡ false
  pub one : in_table 0x20000 (bounds_of starts lengths) ≡ true
