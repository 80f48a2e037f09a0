-- The pairs start, end of a list, and the first that holds a column, as `index_of` finds it. Assumes nothing.
use Rattle.lists.proofs.Kit.{◌≡◌, refl, List, [], ◌∷◌, true, false, ◌&&◌, ℕ, suc, ◌+◌, ◌-◌, ◌*◌, ◌/◌, ◌≤◌, ◌<◌, arith, length, get_or, drop, length-drop, leb}
use Rattle.lists.proofs.Kit.{ltb}
use Rattle.lists.proofs.Lists.{drop_at}
use Rattle.row_cells.specs.Offsets.{pairs_before, segment_index}

-- the pairs of a list
module _ (col s e : ℕ) (rest : List ℕ) where
  pub pair_holds : (leb s col && ltb col e) ≡ true → pairs_before col (s ∷ e ∷ rest) ≡ 0
  unfolding pairs_before
  pair_holds h = rw h

  pub pair_passed : (leb s col && ltb col e) ≡ false → pairs_before col (s ∷ e ∷ rest) ≡ suc (pairs_before col rest)
  unfolding pairs_before
  pair_passed h = rw h

pub pair_none : (col : ℕ) (l : List ℕ) → length l < 2 → pairs_before col l ≡ 0
unfolding pairs_before
pair_none col [] h = refl
pair_none col (s ∷ []) h = refl
pair_none col (s ∷ e ∷ rest) h = absurd (omega arith)

-- the walk of `index_of`, before pair k
pub record PairsTo (col : ℕ) (segments : List ℕ) (k : ℕ) : Type 0 where
  pub inside : k ≤ length segments / 2
  pub rest : pairs_before col segments ≡ k + pairs_before col (drop (2 * k) segments)

module _ {col : ℕ} {segments : List ℕ} {k : ℕ} (so_far : PairsTo col segments k) where
  pair_at : k < length segments / 2 → drop (2 * k) segments ≡ get_or segments (2 * k) 0 ∷ get_or segments (2 * k + 1) 0 ∷ drop (2 * (k + 1)) segments
  pair_at h =
      let product_is : 2 * (k + 1) ≡ 2 * k + 1 + 1 = omega arith in
      rw (product_is, drop_at segments (2 * k) (omega arith), drop_at segments (2 * k + 1) (omega arith))

  pub pairs_next : k < length segments / 2 → (leb (get_or segments (2 * k) 0) col && ltb col (get_or segments (2 * k + 1) 0)) ≡ false → PairsTo col segments (k + 1)
  pairs_next h t =
      let step : pairs_before col (drop (2 * k) segments) ≡ suc (pairs_before col (drop (2 * (k + 1)) segments)) = rw (pair_at h) (pair_passed col _ _ _ t) in
      record { inside = omega arith; rest = omega (arith, so_far.rest, step) }

  pub pairs_stop : k < length segments / 2 → (leb (get_or segments (2 * k) 0) col && ltb col (get_or segments (2 * k + 1) 0)) ≡ true → k ≡ segment_index segments col
  pairs_stop h t =
      let here : pairs_before col (drop (2 * k) segments) ≡ 0 = rw (pair_at h) (pair_holds col _ _ _ t) in
      omega (arith, so_far.rest, here)

  pub pairs_end : length segments / 2 ≤ k → segment_index segments col ≡ length segments / 2 - 1
  pairs_end h =
      let none = pair_none col (drop (2 * k) segments) (omega (arith, length-drop (2 * k) segments, so_far.inside)) in
      omega (arith, so_far.rest, so_far.inside, none)
