-- The segments of a row, one after another, over any width function w and test of white space. Assumes nothing.
use Rattle.lists.proofs.Kit.{◌≡◌, refl, sym, ap, ◌∙◌, List, [], ◌∷◌, Bool, ℕ, zero, suc, ◌+◌, ◌-◌, ◌*◌, ◌≤◌, ◌<◌, add-zero, le_of_suc-le-suc, arith, length}
use Rattle.lists.proofs.Kit.{get_or, take, drop, length-drop, drop_of_length-le, drop-drop, get_or-drop, take_all}
use Rattle.row_segment.specs.Segments.{first_segment}
use Rattle.row_wrap.specs.Segments.{segments_from}
use Rattle.row_segment.proofs.First.{first_pos, first_within}

module _ (w : ℕ → ℕ) (white : ℕ → Bool) (word : Bool) (width : ℕ) where
  pub segments_none : (left i : ℕ) → segments_from w white word width left i [] ≡ []
  unfolding segments_from
  segments_none left i = refl

  -- the characters that are left of a segment are passed
  segments_skip : (left i : ℕ) (row : List ℕ) → left ≤ length row →
      segments_from w white word width left i row ≡ segments_from w white word width 0 (i + left) (drop left row)
  unfolding segments_from
  segments_skip zero i row h = rw add-zero
  segments_skip (suc left) i [] h = absurd (omega arith)
  segments_skip (suc left) i (x ∷ row) h = segments_skip left (suc i) row (le_of_suc-le-suc h) ∙
      ap (λ (n : ℕ). segments_from w white word width 0 n (drop left row)) (omega arith)

  -- the first segment, and then those of the rest
  pub segments_step : (i : ℕ) (row : List ℕ) → 0 < length row →
      let first_segment_lem = first_segment w white word width row in
      segments_from w white word width 0 i row ≡ i ∷ (i + first_segment_lem) ∷ segments_from w white word width 0 (i + first_segment_lem) (drop first_segment_lem row)
  unfolding segments_from
  segments_step i [] h = absurd (omega arith)
  segments_step i (x ∷ row) h =
      let first_segment_lem = first_segment w white word width (x ∷ row) in
      let by_first_pos = first_pos w white word width (x ∷ row) in
      let k_is : first_segment_lem ≡ suc (first_segment_lem - 1) = omega arith in
      let sum_is : suc i + (first_segment_lem - 1) ≡ i + first_segment_lem = omega arith in
      let same_rest : drop first_segment_lem (x ∷ row) ≡ drop (first_segment_lem - 1) row = ap (λ (m : ℕ). drop m (x ∷ row)) k_is in
      ap (λ (l : List ℕ). i ∷ (i + first_segment_lem) ∷ l)
      (segments_skip (first_segment_lem - 1) (suc i) row (omega (arith, first_within w white word width (x ∷ row) h)) ∙
      ap (λ (m : ℕ). segments_from w white word width 0 m (drop (first_segment_lem - 1) row)) sum_is ∙
      ap (segments_from w white word width 0 (i + first_segment_lem)) (sym same_rest))

-- the walk over the segments of a row: `at` numbers of the list are passed, and the next segment begins at `start`
pub record SegmentsTo (w : ℕ → ℕ) (white : ℕ → Bool) (word : Bool) (width : ℕ) (row : List ℕ) (at start : ℕ) : Type 0 where
  pub inside : start ≤ length row
  pub small : at ≤ 2 * start
  pub within : at ≤ length (segments_from w white word width 0 0 row)
  pub rest : drop at (segments_from w white word width 0 0 row) ≡ segments_from w white word width 0 start (drop start row)

-- the next segment stands there, and the walk goes on behind it
pub record NextSegment (w : ℕ → ℕ) (white : ℕ → Bool) (word : Bool) (width : ℕ) (row : List ℕ) (at start end : ℕ) : Type 0 where
  pub first : get_or (segments_from w white word width 0 0 row) at 0 ≡ start
  pub second : get_or (segments_from w white word width 0 0 row) (at + 1) 0 ≡ end
  pub there : at + 2 ≤ length (segments_from w white word width 0 0 row)
  pub onward : SegmentsTo w white word width row (at + 2) end

pub walk_start : (w : ℕ → ℕ) (white : ℕ → Bool) (word : Bool) (width : ℕ) (row : List ℕ) → SegmentsTo w white word width row 0 0
walk_start w white word width row = record { inside = omega arith; small = omega arith; within = omega arith; rest = refl }

two_there : (l rest : List ℕ) (at a b : ℕ) → at ≤ length l → drop at l ≡ a ∷ b ∷ rest →
    (at + 2 ≤ length l) × (get_or l at 0 ≡ a) × (get_or l (at + 1) 0 ≡ b) × (drop (at + 2) l ≡ rest)
two_there l rest at a b h e =
    let same_size = ap length e in (
      omega (arith, length-drop at l),
      ap (λ (m : ℕ). get_or l m 0) (sym (add-zero at)) ∙ sym (get_or-drop at l 0 0) ∙ ap (λ (r : List ℕ). get_or r 0 0) e,
      sym (get_or-drop at l 1 0) ∙ ap (λ (r : List ℕ). get_or r 1 0) e,
      sym (drop-drop 2 at l) ∙ ap (drop 2) e,
    )

-- a row's rest, as a slice of it reads
rest_is : (row : List ℕ) (start : ℕ) → take (length row - start) (drop start row) ≡ drop start row
rest_is row start = take_all (length row - start) (drop start row) (omega (arith, length-drop start row))

module _ {w : ℕ → ℕ} {white : ℕ → Bool} {word : Bool} {width : ℕ} {row : List ℕ} {at start : ℕ} (so_far : SegmentsTo w white word width row at start) where
  pub walk_next : {k : ℕ} → start < length row → k ≡ first_segment w white word width (take (length row - start) (drop start row)) →
      NextSegment w white word width row at start (start + k)
  walk_next {k} h slice =
      let by_rest_is = slice ∙ ap (first_segment w white word width) (rest_is row start) in
      let segments = segments_from w white word width 0 0 row in
      let by_length_drop = length-drop start row in
      let step = segments_step w white word width start (drop start row) (omega arith) in
      let after = segments_from w white word width 0 (start + k) (drop k (drop start row)) in
      let two = two_there segments after at start (start + k) so_far.within (so_far.rest ∙ rw by_rest_is step) in
      record {
        first = two.1;
        second = two.2;
        there = two.0;
        onward =
            record {
              inside = omega (arith, first_within w white word width (drop start row) (omega arith));
              small = omega (arith, so_far.small, first_pos w white word width (drop start row));
              within = two.0;
              rest = two.3 ∙ ap (segments_from w white word width 0 (start + k)) (drop-drop k start row);
            };
      }

  pub walk_end : length row ≤ start → at ≡ length (segments_from w white word width 0 0 row)
  walk_end h =
      let segments = segments_from w white word width 0 0 row in
      let none : drop at segments ≡ [] = so_far.rest ∙ rw (drop_of_length-le row h) (segments_none w white word width 0 start) in
      omega (arith, so_far.within, length-drop at segments, ap length none)

  -- with n segments passed, one more
  pub walk_count : (n : ℕ) {end : ℕ} → at ≡ 2 * n → NextSegment w white word width row at start end → SegmentsTo w white word width row (2 * (n + 1)) end
  walk_count n e next =
      let product_is : 2 * (n + 1) ≡ at + 2 = omega arith in
      rw product_is next.onward
