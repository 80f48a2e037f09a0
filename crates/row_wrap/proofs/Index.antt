-- Where pairs start, end tile a row, the one that holds a column is found, and no other does. Assumes nothing.
use Rattle.lists.proofs.Kit.{◌≡◌, ap, ◌∙◌, List, [], ◌∷◌, and-false, ℕ, zero, suc, ◌+◌, ◌-◌, ◌*◌, ◌/◌, ◌≤◌, ◌<◌, dec_lt, arith, length, get_or, leb, le-leb}
use Rattle.lists.proofs.Kit.{le-ltb, lt-ltb}
use Rattle.row_cells.specs.Offsets.{pairs_before, segment_index}
use Rattle.row_wrap.proofs.Tiles.{Tiles}
use Rattle.row_cells.proofs.Pairs.{pair_holds, pair_passed, pair_none}

-- where pairs go from a to z, the one that holds a column between is found
pub record Found (col : ℕ) (segments : List ℕ) (k : ℕ) : Type 0 where
  pub there : 2 * k + 2 ≤ length segments
  pub low : get_or segments (2 * k) 0 ≤ col
  pub high : col < get_or segments (2 * k + 1) 0

found_earlier : {col s e k : ℕ} {rest : List ℕ} → Found col (s ∷ e ∷ rest) (suc k) → Found col rest k
found_earlier {col} {s} {e} {k} {rest} f =
    let product_is : 2 * suc k ≡ suc (suc (2 * k)) = omega arith in
    let sum_is : 2 * suc k + 1 ≡ suc (suc (2 * k + 1)) = omega arith in
    record { there = omega (arith, f.there); low = rw product_is at f.low; high = rw sum_is at f.high }

found_later : {col s e k : ℕ} {rest : List ℕ} → Found col rest k → Found col (s ∷ e ∷ rest) (suc k)
found_later {col} {s} {e} {k} {rest} f =
    let product_is : 2 * suc k ≡ suc (suc (2 * k)) = omega arith in
    let sum_is : 2 * suc k + 1 ≡ suc (suc (2 * k + 1)) = omega arith in
    record { there = omega (arith, f.there); low = rw product_is f.low; high = rw sum_is f.high }

tiles_find : (a z : ℕ) (segments : List ℕ) (col : ℕ) → Tiles a z segments → a ≤ col → col < z → Found col segments (pairs_before col segments)
tiles_find a z [] col t h l = absurd (omega arith)
tiles_find a z (s ∷ []) col t h l = absurd t
tiles_find a z (s ∷ e ∷ rest) col t h l = go (dec_lt col e) (λ k. tiles_find e z rest col t.2 k l)
  where
    low : s ≤ col
    low = omega (arith, t.0)

    go : Dec (col < e) → (e ≤ col → Found col rest (pairs_before col rest)) → Found col (s ∷ e ∷ rest) (pairs_before col (s ∷ e ∷ rest))
    go (yes k) later = rw (pair_holds col s e rest (rw (le-leb s col low, lt-ltb col e k))) (record { there = omega arith; low = low; high = k })
    go (no k) later = rw (pair_passed col s e rest (rw (le-leb s col low, le-ltb col e (omega arith)))) (found_later (later (omega arith)))

tiles_rise : (a z : ℕ) (segments : List ℕ) → Tiles a z segments → a ≤ z
tiles_rise a z [] t = omega arith
tiles_rise a z (s ∷ []) t = absurd t
tiles_rise a z (s ∷ e ∷ rest) t = omega (arith, t.0, t.1, tiles_rise e z rest t.2)

-- past their end all are passed over
tiles_past : (a z : ℕ) (segments : List ℕ) (col : ℕ) → Tiles a z segments → z ≤ col → 2 * pairs_before col segments ≡ length segments
tiles_past a z [] col t h = omega (arith, pair_none col [] (omega arith))
tiles_past a z (s ∷ []) col t h = absurd t
tiles_past a z (s ∷ e ∷ rest) col t h =
    let by_tiles_rise = tiles_rise e z rest t.2 in
    let by_pair_passed = pair_passed col s e rest (rw (le-ltb col e (omega arith)) (and-false (leb s col))) in
    omega (arith, by_pair_passed, tiles_past e z rest col t.2 h)

-- so the index given is that of the segment that holds the column, and of the last one past the end
pub index_finds : (z : ℕ) (segments : List ℕ) (col : ℕ) → Tiles 0 z segments → col < z → Found col segments (segment_index segments col)
index_finds z segments col t h =
    let by_tiles_find = tiles_find 0 z segments col t (omega arith) h in
    let segment_index_is : segment_index segments col ≡ pairs_before col segments = omega (arith, by_tiles_find.there) in
    rw segment_index_is by_tiles_find

pub index_last : (z : ℕ) (segments : List ℕ) (col : ℕ) → Tiles 0 z segments → z ≤ col → segment_index segments col ≡ length segments / 2 - 1
index_last z segments col t h = omega (arith, tiles_past 0 z segments col t h)

-- the number of segments is half the length of the list
pub tiles_even : (a z : ℕ) (segments : List ℕ) → Tiles a z segments → 2 * (length segments / 2) ≡ length segments
tiles_even a z segments t = omega (arith, tiles_past a z segments z t (omega arith))

-- no other pair holds the column: later ones start where this one ends, or after
tiles_start : (a z : ℕ) (segments : List ℕ) (k : ℕ) → Tiles a z segments → 2 * k + 2 ≤ length segments → a ≤ get_or segments (2 * k) 0
tiles_start a z [] k t h = absurd (omega arith)
tiles_start a z (s ∷ []) k t h = absurd t
tiles_start a z (s ∷ e ∷ rest) zero t h = omega (arith, t.0)
tiles_start a z (s ∷ e ∷ rest) (suc k) t h =
    let product_is : 2 * suc k ≡ suc (suc (2 * k)) = omega arith in
    rw product_is (omega (arith, t.0, t.1, tiles_start e z rest k t.2 (omega arith)))

found_first : (a z : ℕ) (segments : List ℕ) (col k : ℕ) → Tiles a z segments → Found col segments k → pairs_before col segments ≡ k
found_first a z [] col k t f = absurd (omega (arith, f.there))
found_first a z (s ∷ []) col k t f = absurd t
found_first a z (s ∷ e ∷ rest) col zero t f = pair_holds col s e rest (rw (le-leb s col f.low, lt-ltb col e f.high))
found_first a z (s ∷ e ∷ rest) col (suc k) t f =
    let later = found_earlier f in
    let by_tiles_start = tiles_start e z rest k t.2 later.there in
    pair_passed col s e rest (rw (le-ltb col e (omega (arith, later.low))) (and-false (leb s col))) ∙
    ap suc (found_first e z rest col k t.2 later)

pub index_only : (z : ℕ) (segments : List ℕ) (col k : ℕ) → Tiles 0 z segments → Found col segments k → segment_index segments col ≡ k
index_only z segments col k t f = omega (arith, found_first 0 z segments col k t f, f.there)
