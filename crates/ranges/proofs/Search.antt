-- The search in an ascending table: what is known between two places, and what is left where they meet. Assumes nothing.
use Rattle.lists.proofs.Kit.{List, ℕ, ◌+◌, ◌≤◌, ◌<◌, arith, length, get_or, T}
use Rattle.ranges.specs.Ranges.{ascending, UpTo}
use Rattle.ranges.proofs.Ascending.{ascending_le}

-- the numbers before low are at most x, and those from high on are above it
pub record Search (bs : List ℕ) (x low high : ℕ) : Type 0 where
  pub order : low ≤ high
  pub inside : high ≤ length bs
  pub below : (k : ℕ) → k < low → get_or bs k 0 ≤ x
  pub above : (k : ℕ) → high ≤ k → k < length bs → x < get_or bs k 0

module _ {bs : List ℕ} {x low high : ℕ} (t : T (ascending bs)) (s : Search bs x low high) (mid : ℕ) where
  pub search_up : low ≤ mid → mid < high → get_or bs mid 0 ≤ x → Search bs x (mid + 1) high
  search_up l h e =
      record {
        order = omega arith;
        inside = s.inside;
        below = λ k m. omega (arith, s.inside, ascending_le bs t k mid (omega arith) (omega arith));
        above = s.above;
      }

  pub search_down : low ≤ mid → mid < high → x < get_or bs mid 0 → Search bs x low mid
  search_down l h e =
      record { order = l; inside = omega arith; below = s.below; above = λ k m n. omega (arith, ascending_le bs t mid k m n) }

pub search_found : {bs : List ℕ} {x : ℕ} (r : ℕ) → Search bs x r r → UpTo bs x r
search_found r s = record { inside = s.inside; below = s.below; above = s.above }
