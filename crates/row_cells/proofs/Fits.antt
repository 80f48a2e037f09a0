-- How many characters go into a number of cells, and the cells of a row, over any width function w. Assumes nothing.
use Rattle.lists.proofs.Kit.{◌≡◌, refl, ◌∙◌, List, [], ◌∷◌, ℕ, zero, suc, ◌+◌, ◌-◌, ◌*◌, ◌≤◌, ◌<◌, le-max_left, le_of_suc-le-suc, dec_le, arith, length, get_or}
use Rattle.lists.proofs.Kit.{take, drop, drop_of_length-le, take-nil, le-leb, lt-leb}
use Rattle.lists.proofs.Lists.{drop_at}
use Rattle.row_cells.specs.Cells.{cells_of, fits}
use Rattle.row_cells.specs.Offsets.{cells_in}

module _ (w : ℕ → ℕ) where
  pub cells_pos : (x : ℕ) → 0 < cells_of w x
  cells_pos x = le-max_left 1 (w x)

  pub cells_none : cells_in w [] ≡ 0
  unfolding cells_in
  cells_none = refl

  pub cells_more : (x : ℕ) (row : List ℕ) → cells_in w (x ∷ row) ≡ cells_of w x + cells_in w row
  unfolding cells_in
  cells_more x row = refl

  -- more characters have no fewer cells
  pub cells_rises : (row : List ℕ) (i j : ℕ) → i ≤ j → cells_in w (take i row) ≤ cells_in w (take j row)
  cells_rises [] i j h = rw (take-nil i, take-nil j) (omega arith)
  cells_rises (x ∷ row) zero j h = rw cells_none (omega arith)
  cells_rises (x ∷ row) (suc i) zero h = absurd (omega arith)
  cells_rises (x ∷ row) (suc i) (suc j) h = rw (cells_more x, cells_more x) (omega (arith, cells_rises row i j (le_of_suc-le-suc h)))

  pub fits_none : (room : ℕ) → fits w room [] ≡ 0
  unfolding fits
  fits_none room = refl

  pub fits_on : (room x : ℕ) (row : List ℕ) → cells_of w x ≤ room → fits w room (x ∷ row) ≡ suc (fits w (room - cells_of w x) row)
  unfolding fits
  fits_on room x row h = rw (le-leb (cells_of w x) room h)

  pub fits_stop : (room x : ℕ) (row : List ℕ) → room < cells_of w x → fits w room (x ∷ row) ≡ 0
  unfolding fits
  fits_stop room x row h = rw (lt-leb (cells_of w x) room h)

-- k characters fill the room: they go into it, and one more does not
pub record Fills (w : ℕ → ℕ) (room : ℕ) (row : List ℕ) (k : ℕ) : Type 0 where
  pub within : k ≤ length row
  pub inside : cells_in w (take k row) ≤ room
  pub full : k < length row → room < cells_in w (take (suc k) row)

module _ (w : ℕ → ℕ) where
  pub fits_fills : (room : ℕ) (row : List ℕ) → Fills w room row (fits w room row)
  fits_fills room [] = rw (fits_none w room) (record { within = omega arith; inside = rw (cells_none w) (omega arith); full = λ h. absurd (omega arith) })
  fits_fills room (x ∷ row) = go (dec_le (cells_of w x) room) (fits_fills (room - cells_of w x) row)
    where
      go : Dec (cells_of w x ≤ room) → Fills w (room - cells_of w x) row (fits w (room - cells_of w x) row) → Fills w room (x ∷ row) (fits w room (x ∷ row))
      go (yes h) rest = rw (fits_on w room x row h) (record {
        within = omega (arith, rest.within);
        inside = rw (cells_more w x) (omega (arith, rest.inside));
        full = λ l. rw (cells_more w x) (omega (arith, rest.full (omega arith)));
      })
      go (no h) rest = rw (fits_stop w room x row (omega arith))
          (record { within = omega arith; inside = rw (cells_none w) (omega arith); full = λ l. rw (cells_more w x) (omega arith) })

  -- every cell of character i is in a room that i characters fill
  pub fits_cell : (o : ℕ) (row : List ℕ) (i : ℕ) → i < length row → cells_in w (take i row) ≤ o → o < cells_in w (take (suc i) row) → fits w o row ≡ i
  fits_cell o [] i h low high = absurd (omega arith)
  fits_cell o (x ∷ row) zero h low high = fits_stop w o x row (omega (arith, cells_more w x [], cells_none w, high))
  fits_cell o (x ∷ row) (suc i) h low high =
      let by_cells_more = cells_more w x (take i row) in
      let by_cells_more_w = cells_more w x (take (suc i) row) in
      fits_on w o x row (omega arith) ∙ rw (fits_cell (o - cells_of w x) row i (le_of_suc-le-suc h) (omega arith) (omega arith))

-- the walk of `fitting`, before character i with `left` cells left
pub record FitsTo (w : ℕ → ℕ) (room : ℕ) (row : List ℕ) (i left : ℕ) : Type 0 where
  pub inside : i ≤ length row
  pub rest : fits w room row ≡ i + fits w left (drop i row)

module _ {w : ℕ → ℕ} {room : ℕ} {row : List ℕ} {i left : ℕ} (so_far : FitsTo w room row i left) where
  module _ {cells : ℕ} (h : i < length row) (e : cells ≡ cells_of w (get_or row i 0)) where
    pub fits_next : cells ≤ left → FitsTo w room row (i + 1) (left - cells)
    fits_next l =
        let step : fits w left (drop i row) ≡ suc (fits w (left - cells) (drop (i + 1) row)) =
        rw (drop_at row i h, e) (fits_on w left (get_or row i 0) (drop (i + 1) row) (rw e at l)) in
        record { inside = omega arith; rest = omega (arith, so_far.rest, step) }

    pub fits_here : left < cells → i ≡ fits w room row
    fits_here l =
        let none : fits w left (drop i row) ≡ 0 = rw (drop_at row i h) (fits_stop w left (get_or row i 0) (drop (i + 1) row) (rw e at l)) in
        omega (arith, so_far.rest, none)

  pub fits_end : length row ≤ i → length row ≡ fits w room row
  fits_end h =
      let none : fits w left (drop i row) ≡ 0 = rw (drop_of_length-le row h) (fits_none w left) in
      omega (arith, so_far.inside, so_far.rest, none)

-- the walk of `cells_in`, before character i
pub record CellsTo (w : ℕ → ℕ) (row : List ℕ) (i sum : ℕ) : Type 0 where
  pub inside : i ≤ length row
  pub small : sum ≤ 4 * i
  pub rest : cells_in w row ≡ sum + cells_in w (drop i row)

module _ {w : ℕ → ℕ} {row : List ℕ} {i sum : ℕ} (so_far : CellsTo w row i sum) where
  pub cells_next : {cells : ℕ} → i < length row → cells ≡ cells_of w (get_or row i 0) → cells ≤ 4 → CellsTo w row (i + 1) (sum + cells)
  cells_next {cells} h e most =
      let step : cells_in w (drop i row) ≡ cells + cells_in w (drop (i + 1) row) = rw (drop_at row i h, e) (cells_more w (get_or row i 0) (drop (i + 1) row)) in
      record { inside = omega arith; small = omega (arith, so_far.small); rest = omega (arith, so_far.rest, step) }

  pub cells_end : length row ≤ i → sum ≡ cells_in w row
  cells_end h =
      let none : cells_in w (drop i row) ≡ 0 = rw (drop_of_length-le row h) (cells_none w) in
      omega (arith, so_far.rest, none)
