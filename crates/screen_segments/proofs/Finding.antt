-- A walk over the segments of a row stops at the one that is looked for. Assumes nothing.
use Rattle.lists.proofs.Kit.{◌≡◌, refl, sym, ap, ◌∙◌, List, [], ◌∷◌, Bool, true, false, ℕ, ◌+◌, ◌-◌, ◌*◌, ◌/◌, ◌≤◌, ◌<◌, min, dec_lt, arith, length, get_or, take}
use Rattle.lists.proofs.Kit.{drop, ne_eqb}
use Rattle.chars.specs.White.{is_white}
use Rattle.row_segment.specs.Segments.{first_segment}
use Rattle.row_wrap.specs.Segments.{segments_from}
use Rattle.row_cells.specs.Offsets.{segment_index}
use Rattle.row_wrap.proofs.Room.{segments_broken}
use Rattle.row_wrap.proofs.Walk.{SegmentsTo, NextSegment, walk_start, walk_next, walk_count, walk_end}
use Rattle.row_wrap.proofs.Laws.{walk_finds}
use Rattle.row_wrap.proofs.Tiles.{Tiles}
use Rattle.screen_segments.specs.declared.Part.{Part}
use Rattle.screen_segments.specs.Parts.{segment_count, mode_of, lay_of, part_at, part_for}
use Rattle.screen_segments.proofs.Seats.{Laid, laid, seat_from, seat_last}

-- a row that has characters is broken
pub lay_is : (w : ℕ → ℕ) (word : Bool) (width : ℕ) (row : List ℕ) → 0 < width → 0 < length row →
    lay_of w word width row ≡ segments_from w is_white word width 0 0 row
lay_is w true width row p h = segments_broken w is_white (mode_of true) width row
    (rw (ne_eqb width 0 (λ e. omega arith), ne_eqb (length row) 0 (λ e. omega arith)))
lay_is w false width row p h = segments_broken w is_white (mode_of false) width row
    (rw (ne_eqb width 0 (λ e. omega arith), ne_eqb (length row) 0 (λ e. omega arith)))

-- k segments are passed, none of them the one looked for, and the next begins at `start`
pub record Seeking (w : ℕ → ℕ) (word : Bool) (width : ℕ) (row : List ℕ) (col index k start : ℕ) : Type 0 where
  pub passed : SegmentsTo w is_white word width row (2 * k) start
  pub upto : k ≤ index
  pub behind : start ≤ col
  pub few : k ≤ start
  pub open_end : 0 < length row → start < length row

pub seek_start : (w : ℕ → ℕ) (word : Bool) (width : ℕ) (row : List ℕ) (col index : ℕ) → Seeking w word width row col index 0 0
seek_start w word width row col index =
    record { passed = walk_start _ _ _ _ _; upto = omega arith; behind = omega arith; few = omega arith; open_end = λ h. h }

part_eq : (segs : List ℕ) {k start end j : ℕ} → get_or segs (2 * k) 0 ≡ start → get_or segs (2 * k + 1) 0 ≡ end → k ≡ j →
    record { index = k; start = start; end = end } ≡ part_at segs j
part_eq segs {k} s e q = (λ i. record { index = k; start = sym s i; end = sym e i }) ∙ ap (part_at segs) q

module _ {w : ℕ → ℕ} {word : Bool} {width : ℕ} {row : List ℕ} {col index k start m : ℕ} (p : 0 < width) (so_far : Seeking w word width row col index k start)
    (h : start < length row) (slice : m ≡ first_segment w is_white word width (take (length row - start) (drop start row))) where
  next : NextSegment w is_white word width row (2 * k) start (start + m)
  next = walk_next so_far.passed h slice

  is_lay : lay_of w word width row ≡ segments_from w is_white word width 0 0 row
  is_lay = lay_is w word width row p (omega arith)

  here : Laid (length row) (lay_of w word width row)
  here = laid w (mode_of word) width row

  low : get_or (lay_of w word width row) (2 * k) 0 ≡ start
  low = rw is_lay next.first

  high : get_or (lay_of w word width row) (2 * k + 1) 0 ≡ start + m
  high = rw is_lay next.second

  there : k < segment_count (lay_of w word width row)
  there = omega (arith, ap length is_lay, next.there, here.pairs)

  -- it has the number
  pub found_index : k ≡ index → record { index = k; start = start; end = start + m } ≡ part_for (lay_of w word width row) col index
  found_index e = part_eq (lay_of w word width row) low high (omega (arith, seat_from here k col there (omega (arith, low, so_far.behind))))

  -- it holds the column
  pub found_col : col < start + m → record { index = k; start = start; end = start + m } ≡ part_for (lay_of w word width row) col index
  found_col l =
      let at = ap (λ (s : List ℕ). segment_index s col) is_lay ∙ walk_finds w is_white word width row k start (start + m) col next so_far.behind l in
      part_eq (lay_of w word width row) low high (omega (arith, at, so_far.upto))

  -- it is the last
  pub found_last : start + m ≡ length row → start + m ≤ col → record { index = k; start = start; end = start + m } ≡ part_for (lay_of w word width row) col index
  found_last e l =
      let end = walk_end next.onward (omega arith) in
      part_eq (lay_of w word width row) low high (omega (arith, seat_last here col (omega arith), end, ap length is_lay, here.pairs, so_far.upto))

  -- or the walk goes on
  pub seek_on : (k ≡ index → ⊥) → start + m ≤ col → (start + m ≡ length row → ⊥) → Seeking w word width row col index (k + 1) (start + m)
  seek_on n l e =
      record {
        passed = walk_count so_far.passed k refl next;
        upto = omega (arith, so_far.upto);
        behind = l;
        few = omega (arith, next.onward.small);
        open_end = λ q. omega (arith, next.onward.inside);
      }

-- an empty row has the one empty segment
seek_empty : (w : ℕ → ℕ) (word : Bool) (width : ℕ) (row : List ℕ) (col index : ℕ) → length row ≡ 0 →
    record { index = 0; start = 0; end = 0 } ≡ part_for (lay_of w word width row) col index
seek_empty w word width row col index e =
    let by_laid = (laid w (mode_of word) width row).void e in
    let least_is : min index (segment_index (0 ∷ 0 ∷ []) col) ≡ 0 = omega arith in
    rw (by_laid, least_is)

-- a walk that ends behind the row had nothing to walk
pub seek_void : {w : ℕ → ℕ} {word : Bool} {width : ℕ} {row : List ℕ} {col index k start : ℕ} → Seeking w word width row col index k start → length row ≤ start →
    record { index = 0; start = 0; end = 0 } ≡ part_for (lay_of w word width row) col index
seek_void {w} {word} {width} {row} {col} {index} {k} {start} s h = go (dec_lt 0 (length row))
  where
    go : Dec (0 < length row) → record { index = 0; start = 0; end = 0 } ≡ part_for (lay_of w word width row) col index
    go (yes p) = absurd (omega (arith, s.open_end p))
    go (no n) = seek_empty w word width row col index (omega arith)

-- a row has at most as many segments as characters, or one
tiles_few : (a z : ℕ) (segs : List ℕ) → Tiles a z segs → length segs + 2 * a ≤ 2 * z
tiles_few a z [] t = omega arith
tiles_few a z (s ∷ []) t = absurd t
tiles_few a z (s ∷ e ∷ rest) t = omega (arith, t.0, t.1, tiles_few e z rest t.2)

pub few_segments : (w : ℕ → ℕ) (word : Bool) (width : ℕ) (row : List ℕ) → segment_count (lay_of w word width row) ≤ length row + 1
few_segments w word width row = go (dec_lt 0 (length row))
  where
    here : Laid (length row) (lay_of w word width row)
    here = laid w (mode_of word) width row

    go : Dec (0 < length row) → segment_count (lay_of w word width row) ≤ length row + 1
    go (yes p) = omega (arith, tiles_few 0 (length row) (lay_of w word width row) (here.tiles p), here.pairs)
    go (no n) = omega (arith, ap (λ (s : List ℕ). length s / 2) (here.void (omega arith)))

-- the last segment tells how many there are
pub last_counts : (w : ℕ → ℕ) (word : Bool) (width : ℕ) (row : List ℕ) (r : Part) → r ≡ part_for (lay_of w word width row) (length row) (length row) →
    r.index + 1 ≡ segment_count (lay_of w word width row)
last_counts w word width row r e =
    let here = laid w (mode_of word) width row in
    omega (arith, ap (λ (x : Part). x.index) e, seat_last here (length row) (omega arith), few_segments w word width row, here.some)
