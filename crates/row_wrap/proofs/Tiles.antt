-- Segments tile the row, and each is the first of the row's rest. Assumes nothing.
use Rattle.lists.proofs.Kit.{◌≡◌, refl, sym, ap, subst, List, [], ◌∷◌, Bool, ◌⊎◌, ⊎_map, ℕ, zero, suc, ◌+◌, ◌-◌, ◌≤◌, ◌<◌, add-zero, zero-add, le_of_suc-le-suc}
use Rattle.lists.proofs.Kit.{arith, length, drop}
use Rattle.row_segment.specs.Segments.{first_segment}
use Rattle.row_wrap.specs.Segments.{segments_from}
use Rattle.row_cells.specs.Offsets.{part, cells_in}
use Rattle.row_segment.proofs.First.{first_pos, first_within, first_fits}

-- the pairs go from a to z: the first starts at a, each starts where the one before ends, the last ends at z, and none is empty
abbrev pub Tiles : ℕ → ℕ → List ℕ → Type 0
Tiles a z [] = a ≡ z
Tiles a z (s ∷ []) = ⊥
Tiles a z (s ∷ e ∷ rest) = (s ≡ a) × (s < e) × Tiles e z rest

-- each pair start, end has the property
abbrev pub Each : (ℕ → ℕ → Type 0) → List ℕ → Type 0
Each P [] = Unit {0}
Each P (s ∷ []) = ⊥
Each P (s ∷ e ∷ rest) = P s e × Each P rest

module _ (w : ℕ → ℕ) (white : ℕ → Bool) (word : Bool) (width : ℕ) where
  tiles_left :
      (left i : ℕ) (row : List ℕ) {a z : ℕ} → left ≤ length row → i + left ≡ a → i + length row ≡ z → Tiles a z (segments_from w white word width left i row)
  unfolding segments_from
  tiles_left left i [] h e f = omega arith
  tiles_left (suc left) i (x ∷ row) h e f = tiles_left left (suc i) row (le_of_suc-le-suc h) (omega arith) (omega arith)
  tiles_left zero i (x ∷ row) h e f =
      let first_segment_lem = first_segment w white word width (x ∷ row) in
      let by_first_pos = first_pos w white word width (x ∷ row) in
      let by_first_within = first_within w white word width (x ∷ row) (omega arith) in
      (omega arith, omega arith, tiles_left (first_segment_lem - 1) (suc i) row (omega arith) (omega arith) (omega arith))

  -- the segments of a row go from 0 to its count
  pub segments_tile : (row : List ℕ) → Tiles 0 (length row) (segments_from w white word width 0 0 row)
  segments_tile row = tiles_left 0 0 row (omega arith) refl (omega arith)

  next : (P : ℕ → ℕ → Type 0) (i x : ℕ) (row : List ℕ) →
      ((j : ℕ) → j < length (x ∷ row) → P (i + j) (i + j + first_segment w white word width (drop j (x ∷ row)))) →
      (j : ℕ) → j < length row → P (suc i + j) (suc i + j + first_segment w white word width (drop j row))
  next P i x row p j h =
      let sum_is : i + suc j ≡ suc i + j = omega arith in
      subst (λ (n : ℕ). P n (n + first_segment w white word width (drop j row))) sum_is (p (suc j) (omega arith))

  each_left : (P : ℕ → ℕ → Type 0) (left i : ℕ) (row : List ℕ) → ((j : ℕ) → j < length row → P (i + j) (i + j + first_segment w white word width (drop j row))) →
      Each P (segments_from w white word width left i row)
  unfolding segments_from
  each_left P left i [] p = tt
  each_left P (suc left) i (x ∷ row) p = each_left P left (suc i) row (next P i x row p)
  each_left P zero i (x ∷ row) p =
      let first_segment_lem = first_segment w white word width (x ∷ row) in
      (subst (λ (n : ℕ). P n (n + first_segment_lem)) (add-zero i) (p 0 (omega arith)), each_left P (first_segment_lem - 1) (suc i) row (next P i x row p))

  -- each segment is the first of the row's rest, and so has what the first segment of any row has
  pub segments_each : (P : ℕ → ℕ → Type 0) (row : List ℕ) → ((s : ℕ) → s < length row → P s (s + first_segment w white word width (drop s row))) →
      Each P (segments_from w white word width 0 0 row)
  segments_each P row p = each_left P 0 0 row (λ j h. subst (λ (n : ℕ). P n (n + first_segment w white word width (drop j row))) (sym (zero-add j)) (p j h))

  -- each fits the width or is one character
  pub segments_fit : (row : List ℕ) → Each (λ s e. (cells_in w (part row s e) ≤ width) ⊎ (e ≡ s + 1)) (segments_from w white word width 0 0 row)
  segments_fit row = segments_each (λ s e. (cells_in w (part row s e) ≤ width) ⊎ (e ≡ s + 1)) row (λ s h. each s h)
    where
      each : (s : ℕ) → s < length row → let sum = s + first_segment w white word width (drop s row) in (cells_in w (part row s sum) ≤ width) ⊎ (sum ≡ s + 1)
      each s h =
          let first_segment_lem = first_segment w white word width (drop s row) in
          let sum_is : s + first_segment_lem - s ≡ first_segment_lem = omega arith in
          ⊎_map (λ l. rw sum_is l) (λ q. ap (λ (m : ℕ). s + m) q) (first_fits w white word width (drop s row))
