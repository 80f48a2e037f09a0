-- The answer of `inner_pair`: the innermost pair of a kind around a position, and its two ranges. From document 02, #101, over the partners of
-- demand 3: no walk is in it. Definitions only; that the pair is the innermost one is said in `specs/Innermost.antt`. Assumes nothing.
use Rattle.std.specs.Prelude.{Bool, false, cond, ◌&&◌, List, ℕ, ◌+◌, eqb, leb, get_or, Option, Some, None}
use Rattle.text.specs.Text.{position}
use Rattle.text.specs.Offsets.{row_start}
use Rattle.row_search.specs.Nearest.{last_below}
use Rattle.bracket_kinds.specs.declared.Kind.{Kind}
use Rattle.bracket_kinds.specs.Kinds.{open_of}
use Rattle.text.specs.declared.Position.{Position}
use Rattle.bracket_walks.specs.declared.Partner.{Partner}
use Rattle.bracket_walks.specs.declared.Partner.TheVariants.{There, None as Partner-as-None, Refused as Partner-as-Refused}
use Rattle.bracket_walks.specs.Matching.{partner_of, pos_of, placed}
use Rattle.positions.specs.Positions.{refusal_at}
use Rattle.bracket_inner.specs.declared.Ranges.{Ranges}
use Rattle.bracket_inner.specs.declared.Inner.{Inner}
use Rattle.bracket_inner.specs.declared.Inner.TheVariants.{Pair, None as Inner-as-None, Refused}

-- a partner stands at the offset x or after it
unfoldable pub reaches : ℕ → Option ℕ → Bool
reaches x (Some j) = leb x j
reaches x None = false

-- an open of the kind at i, with its partner at x or after it
abbrev pub opens_around : Kind → List ℕ → ℕ → ℕ → Bool
opens_around k t x i = eqb (get_or t i 0) (open_of k) && reaches x (partner_of t i)

-- the open of the innermost pair around x: the last one at x or before it
abbrev pub inner_open : Kind → List ℕ → ℕ → Option ℕ
inner_open k t x = last_below (opens_around k t x) (x + 1)

-- one column on
abbrev pub after : Position → Position
after p = record { row = p.row; col = p.col + 1 }

-- the ranges of the pair with its open at p and its close at q
abbrev pub ranges : Position → Position → Ranges
ranges p q = record { opening = p; from = after p; to = q; past = after q }

-- of the open at p with its partner
unfoldable pub paired : Position → Partner → Inner
paired p (There q) = Pair (ranges p q)
paired p Partner-as-None = Inner-as-None
paired p (Partner-as-Refused f) = Refused f

unfoldable pub pair_from : List ℕ → Option ℕ → Inner
pair_from t (Some i) = paired (pos_of t i) (placed t (partner_of t i))
pair_from t None = Inner-as-None

-- the answer of the call: the refusal of text and position, or the ranges of the innermost pair, or none
unfoldable pub answered : ℕ → Inner → Inner
answered f r = cond (eqb f 0) r (Refused f)

abbrev pub inner_pair : List ℕ → Kind → ℕ → ℕ → Inner
inner_pair t k row col = answered (refusal_at t (position row col)) (pair_from t (inner_open k t (row_start t row + col)))
