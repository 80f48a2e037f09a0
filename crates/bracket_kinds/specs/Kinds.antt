-- The four kinds of bracket and their code points.
-- From the request, demand 3, and motions.rs, "Find / match". Definitions only; the laws are in the crate `bracket_walks`. Assumes nothing.
use Rattle.std.specs.Prelude.{Bool, cond, ◌||◌, ℕ, eqb}
use Rattle.bracket_kinds.specs.declared.Kind.{Kind}
use Rattle.bracket_kinds.specs.declared.Kind.TheVariants.{Round, Square, Curly, Angle}
use Rattle.bracket_kinds.specs.declared.Side.{Side}
use Rattle.bracket_kinds.specs.declared.Side.TheVariants.{Open, Close, Neither}

-- the open bracket of a kind: ( [ { <
abbrev pub open_of : Kind → ℕ
open_of Round = 40
open_of Square = 91
open_of Curly = 123
open_of Angle = 60

-- the close bracket of a kind: ) ] } >
abbrev pub close_of : Kind → ℕ
close_of Round = 41
close_of Square = 93
close_of Curly = 125
close_of Angle = 62

-- what a code point is
unfoldable pub side_of : ℕ → Side
side_of x =
    cond (eqb x 40) (Open Round) (cond (eqb x 41) (Close Round) (cond (eqb x 91) (Open Square) (cond (eqb x 93) (Close Square)
    (cond (eqb x 123) (Open Curly) (cond (eqb x 125) (Close Curly) (cond (eqb x 60) (Open Angle) (cond (eqb x 62) (Close Angle) Neither)))))))

-- the % key starts on it: ( ) [ ] { }
unfoldable pub key_bracket : ℕ → Bool
key_bracket x = eqb x 40 || (eqb x 41 || (eqb x 91 || (eqb x 93 || (eqb x 123 || eqb x 125))))
