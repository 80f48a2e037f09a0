-- The answer of `inner_pair` by its offsets: the last open with its close behind the position is that of the innermost pair, for two pairs never cross,
-- so that every other one is around it. Assumes nothing.
use Rattle.lists.proofs.Kit.{◌≡◌, refl, ◌∙◌, List, [], ◌∷◌, ◌⊎◌, inl, inr, ℕ, ◌<◌, ℕ_discrete, arith, eq-eqb, ne_eqb, Option, Some, None}
use Rattle.text_check.specs.Accept.{text_refusal}
use Rattle.bracket_kinds.specs.declared.Kind.{Kind}
use Rattle.text.specs.declared.Position.{Position}
use Rattle.bracket_walks.specs.Matching.{pos_of, placed}
use Rattle.bracket_laws.specs.Pairs.{Stand, same, before, behind, around, within}
use Rattle.bracket_laws.specs.Demand.{in_text, offset_of}
use Rattle.bracket_laws.proofs.Pairs.{pairs_stand}
use Rattle.bracket_laws.proofs.Positions.{offset_once, offset_before}
use Rattle.bracket_laws.proofs.Demand.{unique, pair_forward}
use Rattle.positions.specs.Positions.{position_refusal}
use Rattle.positions.proofs.Lowest.{lowest_none}
use Rattle.positions.proofs.Checks.{inside}
use Rattle.bracket_inner.specs.declared.Inner.TheVariants.{Pair, None as Inner-as-None, Refused}
use Rattle.bracket_inner.specs.Inner.{ranges, paired, pair_from, inner_open, answered}
use Rattle.bracket_inner.specs.Encloses.{Encloses, Within, Innermost}
use Rattle.bracket_inner.specs.Innermost.{Standing, inner_at, refusal_of}
use Rattle.bracket_inner.proofs.Enclosing.{Around, Latest, pair_partner, inner_told, inner_none}
use Rattle.bracket_inner.proofs.Places.{stands, text_stands, upto_offset, offset_upto, opening, closing, opening_at, closing_at, pair_at, both_stand}

module _ (t : List ℕ) (k : Kind) (x : Position) where
  -- the answer, and what it is
  pub data Answer : Type 0 where
    a_pair : (p q : Position) → inner_at t k x ≡ Pair (ranges p q) → Innermost k t x p q → Standing t (ranges p q) → Answer
    a_none : inner_at t k x ≡ Inner-as-None → ((p q : Position) → Encloses k t x p q → ⊥) → Answer

  -- of a text and a position that are not refused
  module _ (z : refusal_of t x ≡ 0) where
    ok : text_refusal t ≡ 0
    ok = (lowest_none (text_refusal t) (position_refusal t x ∷ []) z).0

    here : stands t x
    here = inside t x z

    -- a pair that encloses the position is one around its offset
    enclosing : {p q : Position} → Encloses k t x p q → Around k t (offset_of t x) (offset_of t p) (offset_of t q)
    enclosing {p} {q} e =
        let by_unique = (unique t ok).told p q e.pair.answer in
        record {
          pair = pair_forward t ok e.pair;
          from = upto_offset (text_stands by_unique.from) here e.from;
          to = upto_offset here (text_stands by_unique.to) e.to;
        }

    answer_is : inner_at t k x ≡ pair_from t (inner_open k t (offset_of t x))
    unfolding answered
    answer_is = rw (eq-eqb (refusal_of t x) 0 z)

    module _ {i j : ℕ} (a : Around k t (offset_of t x) i j) (latest : Latest k t (offset_of t x) i) where
      innermost : Innermost k t x (pos_of t i) (pos_of t j)
      innermost = record {
        encloses = record {
          pair = pair_at t ok a.pair;
          from = offset_upto (text_stands (opening t ok a.pair)) here (omega (arith, opening_at t ok a.pair, a.from));
          to = offset_upto here (text_stands (closing t ok a.pair)) (omega (arith, closing_at t ok a.pair, a.to));
        };
        others = others;
      }
        where
          others : (p' q' : Position) → Encloses k t x p' q' → ((pos_of t i ≡ p') × (pos_of t j ≡ q')) ⊎ Within (pos_of t i) (pos_of t j) p' q'
          others p' q' e = on (pairs_stand a.pair b.pair)
            where
              b : Around k t (offset_of t x) (offset_of t p') (offset_of t q')
              b = enclosing e

              from_in : in_text t p'
              from_in = ((unique t ok).told p' q' e.pair.answer).from

              to_in : in_text t q'
              to_in = ((unique t ok).told p' q' e.pair.answer).to

              on : Stand ◌<◌ i j (offset_of t p') (offset_of t q') → ((pos_of t i ≡ p') × (pos_of t j ≡ q')) ⊎ Within (pos_of t i) (pos_of t j) p' q'
              on (same u v) = inl (
                offset_once (opening t ok a.pair) from_in (opening_at t ok a.pair ∙ u),
                offset_once (closing t ok a.pair) to_in (closing_at t ok a.pair ∙ v),
              )
              on (before u) = absurd (omega (arith, b.from, a.to))
              on (behind u) = absurd (omega (arith, a.from, b.to))
              on (around u v) = absurd (omega (arith, latest (offset_of t p') (offset_of t q') b))
              on (within u v) = inr (
                offset_before from_in (opening t ok a.pair) (omega (arith, opening_at t ok a.pair)),
                offset_before (closing t ok a.pair) to_in (omega (arith, closing_at t ok a.pair)),
              )

    pub answered_so : Answer
    unfolding pair_from paired placed
    answered_so = on (inner_open k t (offset_of t x)) refl
      where
        on : (f : Option ℕ) → inner_open k t (offset_of t x) ≡ f → Answer
        on (Some i) e =
            let by_inner_told = inner_told k t (offset_of t x) i e in
            let is : inner_at t k x ≡ Pair (ranges (pos_of t i) (pos_of t by_inner_told.0)) = answer_is ∙ rw (e, pair_partner k t by_inner_told.1.pair) in
            a_pair (pos_of t i) (pos_of t by_inner_told.0) is (innermost by_inner_told.1 by_inner_told.2) (both_stand t ok by_inner_told.1.pair)
        on None e =
            let is : inner_at t k x ≡ Inner-as-None = answer_is ∙ rw e in
            a_none is (λ p q c. inner_none k t (offset_of t x) e (offset_of t p) (offset_of t q) (enclosing c))

  pub at_refused : (refusal_of t x ≡ 0 → ⊥) → inner_at t k x ≡ Refused (refusal_of t x)
  unfolding answered
  at_refused n = rw (ne_eqb (refusal_of t x) 0 n)

  pub accepted? : {A : Type 0} → (refusal_of t x ≡ 0 → Answer → A) → ((refusal_of t x ≡ 0 → ⊥) → A) → A
  accepted? {A} f g = on (ℕ_discrete (refusal_of t x) 0)
    where
      on : Dec (refusal_of t x ≡ 0) → A
      on (yes z) = f z (answered_so z)
      on (no n) = g n
