-- What `closed` makes of the walk on from an offset: the pair of an open and the close that is found. Assumes nothing.
use Rattle.lists.proofs.Kit.{◌≡◌, sym, ◌∙◌, ap, List, ℕ, ◌≤◌, arith, length}
use Rattle.row_search.proofs.Told.{first_told, last_told}
use Rattle.text.specs.declared.Position.{Position}
use Rattle.bracket_walks.specs.declared.Partner.{Partner}
use Rattle.bracket_walks.specs.declared.Partner.TheVariants.{There, None as Partner-as-None, Refused as Partner-as-Refused}
use Rattle.bracket_walks.specs.Matching.{closes_at, close_from, opens_at, open_below, placed}
use Rattle.bracket_inner.specs.declared.Ranges.{Ranges}
use Rattle.bracket_inner.specs.declared.Inner.TheVariants.{Pair, None, Refused}
use Rattle.bracket_inner.specs.Inner.{ranges, paired}
use Rattle.bracket_inner.proofs.Search.{placed_there}

-- the pair of the open at p, by the answer of the walk on
module _ (p : Position) {a r : Partner} (is : r ≡ a) where
  pub closed_pair : {q : Position} {z : Ranges} → r ≡ There q → z ≡ ranges p q → Pair z ≡ paired p a
  unfolding paired
  closed_pair e s = ap Pair s ∙ ap (paired p) (sym e ∙ is)

  pub closed_none : r ≡ Partner-as-None → None ≡ paired p a
  unfolding paired
  closed_none e = ap (paired p) (sym e ∙ is)

  pub closed_refused : {f : ℕ} → r ≡ Partner-as-Refused f → Refused f ≡ paired p a
  unfolding paired
  closed_refused e = ap (paired p) (sym e ∙ is)

-- a place that a walk finds in a short text has a short column
module _ (t : List ℕ) (short : length t ≤ 1048576) (o c at : ℕ) {q : Position} where
  pub close_brief : placed t (close_from o c t at 1) ≡ There q → q.col ≤ 1048576
  close_brief e =
      let by_placed_there = placed_there t (close_from o c t at 1) q e in
      omega (
        arith,
        ap (λ (y : Position). y.col) by_placed_there.2,
        (first_told (closes_at o c t at 1) at (length t) by_placed_there.0 by_placed_there.1).below,
      )

  pub open_brief : at ≤ length t → placed t (open_below o c t at 1) ≡ There q → q.col ≤ 1048576
  open_brief h e =
      let by_placed_there = placed_there t (open_below o c t at 1) q e in
      omega (arith, ap (λ (y : Position). y.col) by_placed_there.2, (last_told (opens_at o c t at 1) at by_placed_there.0 by_placed_there.1).below)
