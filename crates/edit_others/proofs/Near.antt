-- Laws of the test of a caret beside a change. Assumes nothing.
use Rattle.lists.proofs.Kit.{◌≡◌, ◌+◌, ◌≤◌, ◌<◌, le-leb, lt-leb}
use Rattle.motions.specs.declared.Caret.{Caret}
use Rattle.motions.specs.declared.Moved.TheVariants.{To, Refused}
use Rattle.edit_positions.specs.declared.Change.{Change}
use Rattle.edit_carets.specs.Carets.{corrected_by, Fits}
use Rattle.edit_others.specs.Others.{is_near, followed}

module _ (k : Caret) (c : Change) where
  pub from_row_far : 4294967295 < c.from.row → Refused 4 ≡ followed k c
  unfolding followed is_near
  from_row_far h = rw (lt-leb c.from.row 4294967295 h)

  pub follows : Fits k c → To (corrected_by k c) ≡ followed k c
  unfolding followed is_near
  follows f = rw (
    le-leb c.from.row 4294967295 f.row_fits,
    le-leb c.from.col 4294967295 f.col_fits,
    le-leb (c.end.row + k.row) 4294967295 f.sums.row_fits,
    le-leb (c.end.col + k.col) 4294967295 f.sums.col_fits,
  )

  module _ (row : c.from.row ≤ 4294967295) where
    pub from_col_far : 4294967295 < c.from.col → Refused 4 ≡ followed k c
    unfolding followed is_near
    from_col_far h = rw (le-leb c.from.row 4294967295 row, lt-leb c.from.col 4294967295 h)

    module _ (col : c.from.col ≤ 4294967295) where
      pub row_far : 4294967295 < c.end.row + k.row → Refused 4 ≡ followed k c
      unfolding followed is_near
      row_far h = rw (le-leb c.from.row 4294967295 row, le-leb c.from.col 4294967295 col, lt-leb (c.end.row + k.row) 4294967295 h)

      pub col_far : c.end.row + k.row ≤ 4294967295 → 4294967295 < c.end.col + k.col → Refused 4 ≡ followed k c
      unfolding followed is_near
      col_far g h = rw (
        le-leb c.from.row 4294967295 row,
        le-leb c.from.col 4294967295 col,
        le-leb (c.end.row + k.row) 4294967295 g,
        lt-leb (c.end.col + k.col) 4294967295 h,
      )

      pub near_fits : c.end.row + k.row ≤ 4294967295 → c.end.col + k.col ≤ 4294967295 → Fits k c
      near_fits g h = record { sums = record { row_fits = g; col_fits = h }; row_fits = row; col_fits = col }
