-- The part of a row between two columns, and its cells. Assumes nothing.
use Rattle.lists.proofs.Kit.{◌≡◌, refl, sym, ap, ◌∙◌, List, [], ℕ, suc, ◌+◌, ◌-◌, ◌≤◌, ◌<◌, min, min-eq_left, dec_le, arith, length, take, drop, length-drop}
use Rattle.lists.proofs.Kit.{length-take, drop_of_length-le, take_all, take-nil, take-take, lt-ltb, le-ltb}
use Rattle.row_cells.specs.Cells.{fits}
use Rattle.row_cells.specs.Offsets.{part, char_at_offset, offset_of_char}
use Rattle.row_cells.proofs.Fits.{fits_cell}

-- a part that ends or starts past the row is the part as far as the row goes
pub part_is : (row : List ℕ) (start end : ℕ) {to from : ℕ} → to ≡ min end (length row) → from ≡ min start to →
    take (to - from) (drop from row) ≡ part row start end
part_is row start end {to} {from} e f = go (dec_le start to) (dec_le end (length row))
  where
    all : length row ≤ end → start ≤ end → take (length row - start) (drop start row) ≡ take (end - start) (drop start row)
    all h k =
        let by_length_drop = length-drop start row in
        take_all (length row - start) (drop start row) (omega arith) ∙ sym (take_all (end - start) (drop start row) (omega arith))

    none : (n : ℕ) → length row ≤ start → take n (drop start row) ≡ []
    none n h = rw (drop_of_length-le row h) (take-nil n)

    go : Dec (start ≤ to) → Dec (end ≤ length row) → take (to - from) (drop from row) ≡ part row start end
    go (yes h) (yes k) =
        let to_is : to ≡ end = omega arith in
        let from_is : from ≡ start = omega arith in
        rw (from_is, to_is)
    go (yes h) (no k) =
        let to_is : to ≡ length row = omega arith in
        let from_is : from ≡ start = omega arith in
        rw (from_is, to_is) (all (omega arith) (omega arith))
    go (no h) (yes k) =
        let difference_is : to - from ≡ 0 = omega arith in
        let same_difference : end - start ≡ 0 = omega arith in
        rw (difference_is, same_difference)
    go (no h) (no k) =
        let difference_is : to - from ≡ 0 = omega arith in
        rw difference_is (sym (none (end - start) (omega arith)))

pub part_most : (row : List ℕ) (start end : ℕ) → (length (part row start end) ≤ end - start) × (length (part row start end) ≤ length row)
part_most row start end =
    let by_length_take = length-take (end - start) (drop start row) in
    let by_length_drop = length-drop start row in
    (omega arith, omega arith)

-- the character at an offset, as `char_in` finds it: k characters of the part go into the cells before it
module _ (w : ℕ → ℕ) (row : List ℕ) (start end offset : ℕ) {inside : List ℕ} {k : ℕ} (is : inside ≡ part row start end) (fit : k ≡ fits w offset inside) where
  pub offset_inside : k < length inside → (start + k ≡ char_at_offset w row start end offset) × (start + k < end)
  offset_inside h =
      let k_is : k ≡ fits w offset (part row start end) = fit ∙ ap (fits w offset) is in
      let same_size = ap length is in
      (rw (← k_is, lt-ltb k (length (part row start end)) (omega arith)), omega (arith, (part_most row start end).0))

  pub offset_past : length inside ≤ k → end ≡ char_at_offset w row start end offset
  offset_past h =
      let k_is : k ≡ fits w offset (part row start end) = fit ∙ ap (fits w offset) is in
      let same_size = ap length is in
      rw (← k_is, le-ltb k (length (part row start end)) (omega arith))

-- every cell of a segment's character maps back to it, and so does the offset of its first cell
module _ (w : ℕ → ℕ) (row : List ℕ) (start end i : ℕ) (from : start ≤ i) (before : i < end) (within : end ≤ length row) where
  pub offset_cell : (o : ℕ) → offset_of_char w row start i ≤ o → o < offset_of_char w row start (i + 1) → char_at_offset w row start end o ≡ i
  offset_cell o low high =
      let part_here = part row start end in
      let sum_is : i + 1 - start ≡ suc (i - start) = omega arith in
      let by_length_drop = length-drop start row in
      let size_is : length part_here ≡ end - start = length-take (end - start) (drop start row) ∙ min-eq_left (omega arith) in
      let front_is : take (i - start) part_here ≡ part row start i = take-take (i - start) (end - start) (drop start row) (omega arith) in
      let same_front : take (suc (i - start)) part_here ≡ part row start (i + 1) =
      take-take (suc (i - start)) (end - start) (drop start row) (omega arith) ∙ ap (λ (m : ℕ). take m (drop start row)) (sym sum_is) in
      let fits_is : fits w o part_here ≡ i - start = fits_cell w o part_here (i - start) (omega arith) (rw front_is low) (rw same_front high) in
      sym (offset_inside w row start end o refl (sym fits_is) (omega arith)).0 ∙ omega arith
