-- The partner of a bracket: the nearest place that balances it, found by counting, as a row and a column.
-- From the request, demand 3. Definitions only; that it is the partner is proved in the crate `bracket_laws`. Assumes nothing.
use Rattle.std.specs.Prelude.{Bool, ◌&&◌, List, ℕ, ◌+◌, ◌-◌, eqb, length, get_or, Option, Some, None}
use Rattle.text.specs.Offsets.{row_start, row_of}
use Rattle.bracket_kinds.specs.declared.Side.{Side}
use Rattle.bracket_kinds.specs.declared.Side.TheVariants.{Open, Close, Neither}
use Rattle.text.specs.declared.Position.{Position}
use Rattle.bracket_walks.specs.declared.Partner.{Partner}
use Rattle.bracket_walks.specs.declared.Partner.TheVariants.{There, None as Partner-as-None}
use Rattle.bracket_kinds.specs.Kinds.{open_of, close_of, side_of}
use Rattle.row_search.specs.Nearest.{first_in, last_below}
use Rattle.bracket_walks.specs.Pairs.{count, stretch, up_to}

-- the open o at i and the close c at j, with as many opens as closes from i to j
abbrev pub balances : ℕ → ℕ → List ℕ → ℕ → ℕ → Bool
balances o c t i j = (eqb (get_or t i 0) o && eqb (get_or t j 0) c) && eqb (count o (stretch t i j)) (count c (stretch t i j))

-- the nearest close that balances the open at i, and the nearest open that balances the close at j
abbrev pub forward_of : ℕ → ℕ → List ℕ → ℕ → Option ℕ
forward_of o c t i = first_in (balances o c t i) (i + 1) (length t)

abbrev pub backward_of : ℕ → ℕ → List ℕ → ℕ → Option ℕ
backward_of o c t j = last_below (λ i. balances o c t i j) j

-- a walk on from any place and depth: with d opens of which none is closed before i, the first close from i on that closes the first of them; and
-- back, with d closes from j on, the last open below j that opens the last of them. Depth 1 behind a bracket leads to its partner: `forward_deep`
-- and `backward_deep` of `proofs/Deep.antt`
abbrev pub closes_at : ℕ → ℕ → List ℕ → ℕ → ℕ → ℕ → Bool
closes_at o c t i d j = eqb (get_or t j 0) c && eqb (count o (stretch t i j) + d) (count c (stretch t i j))

abbrev pub close_from : ℕ → ℕ → List ℕ → ℕ → ℕ → Option ℕ
close_from o c t i d = first_in (closes_at o c t i d) i (length t)

abbrev pub opens_at : ℕ → ℕ → List ℕ → ℕ → ℕ → ℕ → Bool
opens_at o c t j d i = eqb (get_or t i 0) o && eqb (count o (up_to t i j)) (count c (up_to t i j) + d)

abbrev pub open_below : ℕ → ℕ → List ℕ → ℕ → ℕ → Option ℕ
open_below o c t j d = last_below (opens_at o c t j d) j

-- the partner of what stands at i, by its side
unfoldable pub nearest_of : Side → List ℕ → ℕ → Option ℕ
nearest_of (Open k) t i = forward_of (open_of k) (close_of k) t i
nearest_of (Close k) t i = backward_of (open_of k) (close_of k) t i
nearest_of Neither t i = None

abbrev pub partner_of : List ℕ → ℕ → Option ℕ
partner_of t i = nearest_of (side_of (get_or t i 0)) t i

-- an offset as a row and a column
abbrev pub pos_of : List ℕ → ℕ → Position
pos_of t at = record { row = row_of t at; col = at - row_start t (row_of t at) }

unfoldable pub placed : List ℕ → Option ℕ → Partner
placed t (Some j) = There (pos_of t j)
placed t None = Partner-as-None
