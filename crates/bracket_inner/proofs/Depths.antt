-- Depths around an offset: where the text is less deep than at the offset, a walk from it with depth 1 stops before; and what the place that it stops
-- at says of the depths. Assumes nothing.
use Rattle.lists.proofs.Kit.{◌≡◌, sym, List, true, ℕ, suc, ◌+◌, ◌≤◌, ◌<◌, arith, length, get_or, eqb, eqb-true}
use Rattle.row_search.proofs.Nearest.{both}
use Rattle.bracket_kinds.specs.declared.Kind.{Kind}
use Rattle.bracket_kinds.specs.Kinds.{open_of, close_of}
use Rattle.bracket_walks.specs.Pairs.{count, stretch, up_to}
use Rattle.bracket_walks.specs.Matching.{closes_at, opens_at}
use Rattle.bracket_walks.proofs.Sides.{differ}
use Rattle.bracket_walks.proofs.Depth.{tally, tally_stretch, tally_up_to, hit}
use Rattle.bracket_walks.proofs.Deep.{closes_so, opens_so}
use Rattle.bracket_laws.proofs.Crossing.{cross}
use Rattle.bracket_laws.proofs.Pairs.{Above}

module _ (k : Kind) (t : List ℕ) (x : ℕ) (h : x ≤ length t) where
  abbrev o : ℕ
  o = open_of k

  abbrev c : ℕ
  c = close_of k

  -- from a place that is less deep than x, an open that the walk back stops at
  pub free_open : (a : ℕ) → a ≤ x → Above o c t a x → (m : ℕ) × (a ≤ m) × (m < x) × (opens_at o c t x 1 m ≡ true)
  free_open a l up =
      let by_cross = cross o c t (tally c t x + 1) (tally o t x) a x l h (λ e. omega arith) (omega arith) in (
        by_cross.at,
        by_cross.from,
        by_cross.below,
        opens_so o c t x 1 by_cross.at (omega (arith, by_cross.below)) by_cross.is (omega (arith, by_cross.level)),
      )

  -- and before a place behind x that is less deep, a close that the walk on stops at
  pub free_close : (b : ℕ) → x ≤ b → b ≤ length t → Above o c t b x → (m : ℕ) × (x ≤ m) × (m < b) × (closes_at o c t x 1 m ≡ true)
  free_close b l u up =
      let by_cross = cross c o t (tally o t x) (tally c t x) x b l u (λ e. omega arith) (omega arith) in
      let by_hit = hit c o t by_cross.at (omega (arith, by_cross.below)) (λ e. differ k (sym e)) by_cross.is in (
        by_cross.at,
        by_cross.from,
        by_cross.below,
        closes_so o c t x 1 by_cross.at (omega (arith, by_cross.from)) by_cross.is (omega (arith, by_cross.level)),
      )

  -- what a place that a walk stops at says of the depths
  pub open_level : (i : ℕ) → i ≤ x → opens_at o c t x 1 i ≡ true → (get_or t i 0 ≡ o) × (tally c t x + tally o t i + 1 ≡ tally o t x + tally c t i)
  open_level i l e =
      let by_both = both (eqb (get_or t i 0) o) (eqb (count o (up_to t i x)) (count c (up_to t i x) + 1)) e in
      let count_is : count o (up_to t i x) ≡ count c (up_to t i x) + 1 = eqb-true _ _ by_both.1 in
      (eqb-true _ _ by_both.0, omega (arith, tally_up_to o t i x l, tally_up_to c t i x l))

  pub close_level : (j : ℕ) → x ≤ j → closes_at o c t x 1 j ≡ true → (get_or t j 0 ≡ c) × (tally o t (suc j) + tally c t x + 1 ≡ tally c t (suc j) + tally o t x)
  close_level j l e =
      let by_both = both (eqb (get_or t j 0) c) (eqb (count o (stretch t x j) + 1) (count c (stretch t x j))) e in
      let count_plus_one : count o (stretch t x j) + 1 ≡ count c (stretch t x j) = eqb-true _ _ by_both.1 in
      (eqb-true _ _ by_both.0, omega (arith, tally_stretch o t x j (omega arith), tally_stretch c t x j (omega arith)))
