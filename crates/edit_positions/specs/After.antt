-- A stretch of a text that gives way to code points: the text after it, and where the offsets and positions of the old one go.
-- From document 02, #102: an insert is an empty stretch that gives way, a delete one that gives way to nothing.
-- Definitions only; the laws are in `proofs/`. Assumes nothing.
use Rattle.std.specs.Prelude.{ℕ, ◌+◌, ◌-◌, List, cond, ltb, length}
use Rattle.text.specs.Offsets.{row_start}
use Rattle.text.specs.declared.Position.{Position}
use Rattle.bracket_walks.specs.Matching.{pos_of}
use Rattle.edit_places.specs.Replaced.{replaced}

-- a position as an offset of the text; `pos_of` is the other way round
abbrev pub offset_of : List ℕ → Position → ℕ
offset_of t p = row_start t p.row + p.col

-- the text once the stretch from p up to q has given way to c
abbrev pub text_after : List ℕ → Position → Position → List ℕ → List ℕ
text_after t p q c = replaced t (offset_of t p) (offset_of t q) c

-- where the offset x goes, once what stands from a up to b has given way to n code points: before a it stays, before b it goes to a, and from b on
-- it goes with its character
unfoldable pub offset_after : ℕ → ℕ → ℕ → ℕ → ℕ
offset_after a b n x = cond (ltb x a) x (cond (ltb x b) a (x - (b - a) + n))

-- where a position goes
abbrev pub position_after : List ℕ → Position → Position → List ℕ → Position → Position
position_after t p q c x = pos_of (text_after t p q c) (offset_after (offset_of t p) (offset_of t q) (length c) (offset_of t x))
