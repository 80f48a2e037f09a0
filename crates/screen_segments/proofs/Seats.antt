-- The segments of a row, by their number: each holds the place that a screen move gives it. Assumes nothing.
use Rattle.lists.proofs.Kit.{◌≡◌, refl, ap, List, [], ◌∷◌, and-false, ℕ, zero, suc, ◌+◌, ◌-◌, ◌*◌, ◌/◌, ◌≤◌, ◌<◌, dec_lt, arith, length, get_or, leb, lt-ltb}
use Rattle.lists.proofs.Kit.{le-ltb}
use Rattle.chars.specs.White.{is_white}
use Rattle.row_wrap.specs.declared.Wrap.{Wrap}
use Rattle.row_wrap.specs.Modes.{segments_of}
use Rattle.row_cells.specs.Offsets.{pairs_before, segment_index}
use Rattle.row_wrap.proofs.Tiles.{Tiles}
use Rattle.row_cells.proofs.Pairs.{pair_passed}
use Rattle.row_wrap.proofs.Index.{index_only, index_last}
use Rattle.row_wrap.proofs.Laws.{wrap_tiles, wrap_even, wrap_empty}
use Rattle.screen_segments.specs.Parts.{clamp_to, segment_count}

-- how a row of `len` characters is broken: into pairs that tile it, or the one empty pair of an empty row
pub record Laid (len : ℕ) (segs : List ℕ) : Type 0 where
  pub pairs : 2 * segment_count segs ≡ length segs
  pub some : 0 < segment_count segs
  pub tiles : 0 < len → Tiles 0 len segs
  pub void : len ≡ 0 → segs ≡ 0 ∷ 0 ∷ []

tiles_long : (z : ℕ) (segs : List ℕ) → 0 < z → Tiles 0 z segs → 2 ≤ length segs
tiles_long z [] h t = absurd (omega arith)
tiles_long z (s ∷ []) h t = absurd t
tiles_long z (s ∷ e ∷ rest) h t = omega arith

pub laid : (w : ℕ → ℕ) (mode : Wrap) (width : ℕ) (row : List ℕ) → Laid (length row) (segments_of w is_white mode width row)
laid w mode width [] =
    let by_wrap_empty = wrap_empty w is_white mode width in
    rw by_wrap_empty (record { pairs = refl; some = omega arith; tiles = λ h. absurd (omega arith); void = λ h. refl })
laid w mode width (x ∷ row) =
    let segs = segments_of w is_white mode width (x ∷ row) in
    let by_wrap_tiles = wrap_tiles w is_white mode width (x ∷ row) (omega arith) in
    let by_wrap_even = wrap_even w is_white mode width (x ∷ row) (omega arith) in
    record {
      pairs = by_wrap_even;
      some = omega (arith, tiles_long (length (x ∷ row)) segs (omega arith) by_wrap_tiles);
      tiles = λ h. by_wrap_tiles;
      void = λ h. absurd (omega arith);
    }

-- segment k stands between a and z, is not empty, and begins where all columns before it are in segments before it
pub record Within (a z : ℕ) (segs : List ℕ) (k : ℕ) : Type 0 where
  pub low : a ≤ get_or segs (2 * k) 0
  pub long : get_or segs (2 * k) 0 < get_or segs (2 * k + 1) 0
  pub high : get_or segs (2 * k + 1) 0 ≤ z
  pub after : (col : ℕ) → get_or segs (2 * k) 0 ≤ col → k ≤ pairs_before col segs

rises : (a z : ℕ) (segs : List ℕ) → Tiles a z segs → a ≤ z
rises a z [] t = omega arith
rises a z (s ∷ []) t = absurd t
rises a z (s ∷ e ∷ rest) t = omega (arith, t.0, t.1, rises e z rest t.2)

pub tiles_within : (a z : ℕ) (segs : List ℕ) (k : ℕ) → Tiles a z segs → 2 * k + 2 ≤ length segs → Within a z segs k
tiles_within a z [] k t h = absurd (omega arith)
tiles_within a z (s ∷ []) k t h = absurd t
tiles_within a z (s ∷ e ∷ rest) zero t h =
    record { low = omega (arith, t.0); long = t.1; high = rises e z rest t.2; after = λ col l. omega arith }
tiles_within a z (s ∷ e ∷ rest) (suc k) t h =
    let product_is : 2 * suc k ≡ suc (suc (2 * k)) = omega arith in
    let sum_is : 2 * suc k + 1 ≡ suc (suc (2 * k + 1)) = omega arith in
    let by_tiles_within = tiles_within e z rest k t.2 (omega arith) in
    record {
      low = rw product_is (omega (arith, t.0, t.1, by_tiles_within.low));
      long = rw (sum_is, product_is) by_tiles_within.long;
      high = rw sum_is by_tiles_within.high;
      after = λ col l.
          let l2 : get_or rest (2 * k) 0 ≤ col = rw product_is at l in
          omega (
            arith,
            pair_passed col s e rest (rw (le-ltb col e (omega (arith, by_tiles_within.low))) (and-false (leb s col))),
            by_tiles_within.after col l2,
          );
    }

module _ {len : ℕ} {segs : List ℕ} (l : Laid len segs) where
  -- a place in segment j is found in segment j again
  pub seat_is : (j offset : ℕ) → j < segment_count segs → segment_index segs (clamp_to (get_or segs (2 * j) 0) (get_or segs (2 * j + 1) 0) offset len) ≡ j
  seat_is j offset h = go (dec_lt 0 len)
    where
      go : Dec (0 < len) → segment_index segs (clamp_to (get_or segs (2 * j) 0) (get_or segs (2 * j + 1) 0) offset len) ≡ j
      go (yes p) =
          let by_tiles_within = tiles_within 0 len segs j (l.tiles p) (omega (arith, l.pairs)) in
          rw (lt-ltb _ _ by_tiles_within.long) (index_only len segs _ j (l.tiles p) (record {
            there = omega (arith, l.pairs);
            low = omega (arith, by_tiles_within.long, by_tiles_within.high);
            high = omega (arith, by_tiles_within.long, by_tiles_within.high);
          }))
      go (no n) = omega (arith, ap (λ (s : List ℕ). length s / 2) (l.void (omega arith)))

  -- and stands inside the row
  pub clamp_inside : (start end offset : ℕ) → clamp_to start end offset len ≤ len
  clamp_inside start end offset = omega arith

  -- a column at or behind a segment's start is in that segment or a later one; past the row's end in the last
  pub seat_from : (j col : ℕ) → j < segment_count segs → get_or segs (2 * j) 0 ≤ col → j ≤ segment_index segs col
  seat_from j col h m = go (dec_lt 0 len)
    where
      go : Dec (0 < len) → j ≤ segment_index segs col
      go (yes p) = omega (arith, (tiles_within 0 len segs j (l.tiles p) (omega (arith, l.pairs))).after col m)
      go (no n) = omega (arith, ap (λ (s : List ℕ). length s / 2) (l.void (omega arith)))

  pub seat_within : (col : ℕ) → segment_index segs col < segment_count segs
  seat_within col = omega (arith, l.some)

  pub seat_last : (col : ℕ) → len ≤ col → segment_index segs col ≡ segment_count segs - 1
  seat_last col h = go (dec_lt 0 len)
    where
      go : Dec (0 < len) → segment_index segs col ≡ segment_count segs - 1
      go (yes p) = index_last len segs col (l.tiles p) h
      go (no n) = omega (arith, ap (λ (s : List ℕ). length s / 2) (l.void (omega arith)))

  pub start_within : (j : ℕ) → j < segment_count segs → get_or segs (2 * j) 0 ≤ len
  start_within j h = go (dec_lt 0 len)
    where
      go : Dec (0 < len) → get_or segs (2 * j) 0 ≤ len
      go (yes p) =
          let by_tiles_within = tiles_within 0 len segs j (l.tiles p) (omega (arith, l.pairs)) in
          omega (arith, by_tiles_within.long, by_tiles_within.high)
      go (no n) =
          let by_void = l.void (omega arith) in
          let j_is : j ≡ 0 = omega (arith, ap (λ (s : List ℕ). length s / 2) by_void) in
          rw (j_is, by_void) (omega arith)
