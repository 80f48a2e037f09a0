-- What document 02, #101 asks of `inner_pair`: its answer is the innermost pair of demand 3 around the position, and none exactly where there is no
-- such pair. Definitions only; the proof, for every text, kind and position, is in `proofs/Innermost.antt`. Assumes nothing.
use Rattle.std.specs.Prelude.{◌≡◌, List, ℕ}
use Rattle.bracket_kinds.specs.declared.Kind.{Kind}
use Rattle.text.specs.declared.Position.{Position}
use Rattle.bracket_laws.specs.Demand.{Before}
use Rattle.positions.specs.Positions.{refusal_at, Inside}
use Rattle.bracket_inner.specs.declared.Ranges.{Ranges}
use Rattle.bracket_inner.specs.declared.Inner.{Inner}
use Rattle.bracket_inner.specs.declared.Inner.TheVariants.{Pair, None, Refused}
use Rattle.bracket_inner.specs.Inner.{ranges, inner_pair}
use Rattle.bracket_inner.specs.Encloses.{Upto, Encloses, Innermost}

-- a position as the checks take it
-- both ranges stand in the text, and that between the brackets in the one with them
pub record Standing (t : List ℕ) (r : Ranges) : Type 0 where
  pub opening_in : Inside t r.opening
  pub from_in : Inside t r.from
  pub to_in : Inside t r.to
  pub past_in : Inside t r.past
  pub starts : Before r.opening r.from
  pub between : Upto r.from r.to
  pub ends : Before r.to r.past

-- the ranges r are those of the innermost pair around x
pub record Told (t : List ℕ) (k : Kind) (x : Position) (r : Ranges) : Type 0 where
  pub open_at : Position
  pub close_at : Position
  pub innermost : Innermost k t x open_at close_at
  pub told : r ≡ ranges open_at close_at
  pub standing : Standing t r

-- what the call answers at x
abbrev pub inner_at : List ℕ → Kind → Position → Inner
inner_at t k x = inner_pair t k x.row x.col

abbrev pub refusal_of : List ℕ → Position → ℕ
refusal_of t x = refusal_at t x

-- the answer is the innermost pair; it is none exactly where no pair encloses the position; and it is refused exactly where the text or the
-- position is
pub record InnerPairs (t : List ℕ) (k : Kind) (x : Position) : Type 0 where
  pub pair : (r : Ranges) → inner_at t k x ≡ Pair r → Told t k x r
  pub pair_only : refusal_of t x ≡ 0 → (p q : Position) → Innermost k t x p q → inner_at t k x ≡ Pair (ranges p q)
  pub none : inner_at t k x ≡ None → (p q : Position) → Encloses k t x p q → ⊥
  pub none_only : refusal_of t x ≡ 0 → ((p q : Position) → Encloses k t x p q → ⊥) → inner_at t k x ≡ None
  pub refused : (f : ℕ) → inner_at t k x ≡ Refused f → (refusal_of t x ≡ f) × (f ≡ 0 → ⊥)
  pub refused_only : (refusal_of t x ≡ 0 → ⊥) → inner_at t k x ≡ Refused (refusal_of t x)
