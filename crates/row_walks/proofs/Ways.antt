-- A signed row, one step on or back: it may come to stand at minus one, and be stepped back from there. Signed numbers are kept as their bits,
-- which each operation reads and writes; those of a row of a text are the row. Assumes nothing.
use Rattle.lists.proofs.Kit.{◌≡◌, refl, ap, sym, ◌∙◌, Bool, true, false, ◌||◌, ℕ, ◌+◌, ◌-◌, ◌≤◌, ◌<◌, ℕ_discrete, dec_lt, arith, T, lt-ltb, le-ltb}
use lib.IntN.{ℤ, pos, negsuc, ◌+ℤ◌, ◌-ℤ◌, nat_abs, +ℤ-neg_ℤ_cancel}
use lib.Signed.{lt_z, non_neg}
use mir.Syntax.{w64}
use mir.Val.{Fits, SFits, to_z, of_z}
use mir.Facts.{to_z-of_z, to_z_pos}
use Rattle.row_walks.specs.Toward.{dir_of, rows_left, onward}

pub fits_pos : (n : ℕ) → n ≤ 1048577 → SFits w64 (pos n)
fits_pos n h = record { sfits = omega arith }

-- what the code's operations give, by their bits: a row read unsigned, one step on in the direction d, and that step back
abbrev pub cast_of : ℕ → ℕ
cast_of row = nat_abs (to_z w64 row)

abbrev pub next_of : ℕ → ℤ → ℤ
next_of row d = to_z w64 row +ℤ to_z w64 (of_z w64 d)

abbrev pub back_of : ℕ → ℤ → ℤ
back_of row d = to_z w64 (of_z w64 (next_of row d)) -ℤ to_z w64 (of_z w64 d)

-- before the first row, or behind the last
abbrev pub is_outside : ℤ → ℤ → Bool
is_outside last row = lt_z row (pos 0) || lt_z last row

module _ (row : ℕ) (h : row ≤ 1048577) where
  read_row_lem : to_z w64 row ≡ pos row
  read_row_lem = to_z_pos w64 (omega arith)

  pub cast_fits : T (non_neg (to_z w64 row)) × Fits w64 (cast_of row)
  cast_fits = rw read_row_lem (tt, record { fits = omega arith })

  pub cast_row : cast_of row ≡ row
  cast_row = ap nat_abs read_row_lem

up_is : (row : ℕ) → 0 < row → pos row +ℤ negsuc 0 ≡ pos (row - 1)
up_is row h = rw (le-ltb row 1 h)

-- the sum fits: at row 0 it is minus one
fits_step : (fwd : Bool) (row : ℕ) → row ≤ 1048577 → SFits w64 (pos row +ℤ dir_of fwd)
fits_step true row h = record { sfits = omega arith }
fits_step false row h = go (dec_lt 0 row)
  where
    go : Dec (0 < row) → SFits w64 (pos row +ℤ negsuc 0)
    go (yes p) = rw (up_is row p) (fits_pos (row - 1) (omega arith))
    go (no n) =
        let row_is : row ≡ 0 = omega arith in
        rw row_is (record { sfits = omega arith })

-- the rows that are left in a direction tell whether the next one is outside
module _ (last row : ℕ) where
  next_outside : (fwd : Bool) → rows_left fwd last row ≡ 0 → is_outside (pos last) (pos row +ℤ dir_of fwd) ≡ true
  next_outside true e = rw (le-ltb (row + 1) 0 (omega arith), lt-ltb last (row + 1) (omega arith))
  next_outside false e = rw e

  next_inside : (fwd : Bool) → row ≤ last + 1 → 0 < rows_left fwd last row → is_outside (pos last) (pos row +ℤ dir_of fwd) ≡ false
  next_inside true l h = rw (le-ltb (row + 1) 0 (omega arith), le-ltb last (row + 1) (omega arith))
  next_inside false l h = rw (up_is row h, le-ltb (row - 1) 0 (omega arith), le-ltb last (row - 1) (omega arith))

  next_row_lem : (fwd : Bool) → 0 < rows_left fwd last row → of_z w64 (pos row +ℤ dir_of fwd) ≡ onward fwd row
  next_row_lem true h = refl
  next_row_lem false h = ap (of_z w64) (up_is row h)

-- the step and the step back in the direction d
module _ (fwd : Bool) (last row : ℕ) (near : row ≤ last + 1) (most : last ≤ 1048576) (d : ℤ) (f : d ≡ dir_of fwd) where
  read_dir : to_z w64 (of_z w64 d) ≡ dir_of fwd
  read_dir = rw f (to_z-of_z (go fwd))
    where
      go : (b : Bool) → SFits w64 (dir_of b)
      go true = record { sfits = omega arith }
      go false = record { sfits = omega arith }

  next_is : next_of row d ≡ pos row +ℤ dir_of fwd
  next_is = rw (read_row_lem row (omega arith), read_dir)

  pub next_fits : SFits w64 (next_of row d)
  next_fits = rw next_is (fits_step fwd row (omega arith))

  read_next : to_z w64 (of_z w64 (next_of row d)) ≡ pos row +ℤ dir_of fwd
  read_next = rw next_is (to_z-of_z (fits_step fwd row (omega arith)))

  back_is : back_of row d ≡ pos row
  back_is = rw (read_next, read_dir) (+ℤ-neg_ℤ_cancel (pos row) (dir_of fwd))

  pub back_fits : SFits w64 (back_of row d)
  back_fits = rw back_is (fits_pos row (omega arith))

  pub back_row : of_z w64 (back_of row d) ≡ row
  back_row = ap (of_z w64) back_is

  -- whether the next row is outside
  module _ (b : Bool) (o : is_outside (to_z w64 last) (to_z w64 (of_z w64 (next_of row d))) ≡ b) where
    outside : is_outside (pos last) (pos row +ℤ dir_of fwd) ≡ b
    outside = rw (read_row_lem last (omega arith), read_next) at o

    pub outside_rest : b ≡ true → rows_left fwd last row ≡ 0
    outside_rest e = go (ℕ_discrete (rows_left fwd last row) 0)
      where
        go : Dec (rows_left fwd last row ≡ 0) → rows_left fwd last row ≡ 0
        go (yes z) = z
        go (no n) =
            let clash : false ≡ true = sym (next_inside last row fwd near (omega arith)) ∙ outside ∙ e in
            let never : ◌≡◌ {A = ℕ} 0 1 = cc in
            absurd (omega arith)

    pub inside_rest : b ≡ false → 0 < rows_left fwd last row
    inside_rest e = go (ℕ_discrete (rows_left fwd last row) 0)
      where
        go : Dec (rows_left fwd last row ≡ 0) → 0 < rows_left fwd last row
        go (yes z) =
            let clash : true ≡ false = sym (next_outside last row fwd z) ∙ outside ∙ e in
            let never : ◌≡◌ {A = ℕ} 0 1 = cc in
            absurd (omega arith)
        go (no n) = omega arith

    pub inside_row : b ≡ false → of_z w64 (next_of row d) ≡ onward fwd row
    inside_row e = ap (of_z w64) next_is ∙ next_row_lem last row fwd (inside_rest e)
