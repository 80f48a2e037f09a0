-- The reply of `inner_pair`, its kind by the number that stands for it. Cited by `call_texts::inners`. Assumes nothing.
use Rattle.std.specs.Prelude.{ℕ, List, [], ◌∷◌, cond, eqb, replicate}
use Rattle.bracket_kinds.specs.declared.Kind.TheVariants.{Round, Square, Curly, Angle}
use Rattle.bracket_inner.specs.declared.Ranges.{Ranges}
use Rattle.bracket_inner.specs.declared.Inner.{Inner}
use Rattle.bracket_inner.specs.declared.Inner.TheVariants.{Pair, None, Refused}
use Rattle.bracket_inner.specs.Inner.{inner_pair}
use Rattle.call_bytes.specs.Reply.{Reply, answer, refused}
use Rattle.call_texts.specs.Partners.{Small}

-- the number and values of a pair: 1, and row and column of where the range between the brackets starts and ends, and of where that with them does;
-- nine times 0 where there is none; or a refusal's number
unfoldable pub surrounded : Inner → Reply
surrounded (Pair r) =
    answer (1 ∷ r.from.row ∷ r.from.col ∷ r.to.row ∷ r.to.col ∷ r.opening.row ∷ r.opening.col ∷ r.past.row ∷ r.past.col ∷ [])
surrounded None = answer (replicate 9 0)
surrounded (Refused f) = refused f

-- the four positions fit u32s
pub record SmallRanges (r : Ranges) : Type 0 where
  pub from_small : Small r.from
  pub to_small : Small r.to
  pub opening_small : Small r.opening
  pub past_small : Small r.past

abbrev pub Fits : Inner → Type 0
Fits (Pair r) = SmallRanges r
Fits None = Unit
Fits (Refused f) = Unit

-- the answer for the kind; 100 where the number stands for none
unfoldable pub inner_by : ℕ → ℕ → ℕ → List ℕ → Inner
inner_by kind row col t =
    cond (eqb kind 0) (inner_pair t Round row col)
    (cond (eqb kind 1) (inner_pair t Square row col)
    (cond (eqb kind 2) (inner_pair t Curly row col)
    (cond (eqb kind 3) (inner_pair t Angle row col)
    (Refused 100))))

abbrev pub inner : ℕ → ℕ → ℕ → List ℕ → Reply
inner kind row col t = surrounded (inner_by kind row col t)
