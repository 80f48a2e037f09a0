-- The place before an offset, that an offset has one row and one column, and the last place of a text.
-- Assumes nothing.
use Rattle.lists.proofs.Kit.{◌≡◌, refl, ap, List, ℕ, zero, suc, ◌+◌, ◌-◌, ◌≤◌, ◌<◌, add-zero, add-one, dec_lt, ℕ_discrete, arith, length, get_or}
use Rattle.text.specs.Text.{rows, row_count, row_len}
use Rattle.text.specs.Offsets.{start_in, row_start, At}
use Rattle.text.proofs.Rows.{rows_pos, start_zero}
use Rattle.text.proofs.Parts.{next_start_lem}
use Rattle.text.proofs.At.{at_le, at_end_lem, at_col, on_char, after_nl, char_there, nl_there}

module _ (t : List ℕ) (r : ℕ) (h : 0 < r) (l : r < row_count t) where
  -- where a row after the first starts
  pub start_after : row_start t r ≡ row_start t (r - 1) + row_len t (r - 1) + 1
  start_after =
      let difference_is : r - 1 + 1 ≡ r = omega arith in
      rw difference_is at (next_start_lem t (r - 1) (omega arith))

  -- the separator before it
  pub at_before : At t (r - 1) (row_len t (r - 1)) (row_start t r - 1)
  at_before = record { in_row = omega arith; in_col = omega arith; offset = omega (arith, start_after) }

-- each row before it takes a separator at least
pub start_ge : (t : List ℕ) (r : ℕ) → r < row_count t → r ≤ row_start t r
start_ge t zero h = omega arith
start_ge t (suc r) h = omega (arith, start_ge t r (omega arith), rw (add-one r) at (next_start_lem t r (omega arith)))

module _ {t : List ℕ} {r c at : ℕ} (a : At t r c at) where
  first_row : r ≡ 0 → row_start t r ≡ 0
  first_row e = rw e (start_zero t)

  -- before the first column of a row after the first: the separator that ends the row before
  module _ (z : c ≡ 0) (h : 0 < r) where
    pub before_start : 0 < at
    before_start = omega (arith, start_after t r h a.in_row, a.offset)

    pub before_row : At t (r - 1) (row_len t (r - 1)) (at - 1)
    before_row = record { in_row = omega (arith, a.in_row); in_col = omega arith; offset = omega (arith, start_after t r h a.in_row, a.offset) }

    pub before_row_nl : get_or t (at - 1) 0 ≡ 10
    before_row_nl = (nl_there before_row refl (omega (arith, a.in_row))).1

  -- before another column: a code point of the row
  module _ (h : 0 < c) where
    pub before_col : At t r (c - 1) (at - 1)
    before_col = at_col a (c - 1) (at - 1) (omega (arith, a.in_col)) (omega (arith, a.offset))

    pub before_col_char : get_or t (at - 1) 0 ≡ 10 → ⊥
    before_col_char = (char_there before_col (omega (arith, a.in_col))).1

  -- at the first offset: the first row and column
  pub on_first_lem : at ≡ 0 → (r ≡ 0) × (c ≡ 0)
  on_first_lem e = go (dec_lt 0 r) (dec_lt 0 c)
    where
      go : Dec (0 < r) → Dec (0 < c) → (r ≡ 0) × (c ≡ 0)
      go d (yes p) = absurd (omega (arith, a.offset))
      go (yes p) (no n) = absurd (omega (arith, before_start (omega arith) p))
      go (no m) (no n) = (omega arith, omega arith)

  -- behind a separator: the first column of a row after the first
  pub behind_nl : 0 < at → get_or t (at - 1) 0 ≡ 10 → (c ≡ 0) × (0 < r)
  behind_nl h e = go (dec_lt 0 c) (dec_lt 0 r)
    where
      go : Dec (0 < c) → Dec (0 < r) → (c ≡ 0) × (0 < r)
      go (yes p) d = absurd (before_col_char p e)
      go (no n) (yes p) = (omega arith, p)
      go (no n) (no m) = absurd (omega (arith, first_row (omega arith), a.offset))

  -- behind any other code point: not the first column
  pub behind_char : 0 < at → (get_or t (at - 1) 0 ≡ 10 → ⊥) → 0 < c
  behind_char h n = go (dec_lt 0 c) (dec_lt 0 r)
    where
      go : Dec (0 < c) → Dec (0 < r) → 0 < c
      go (yes p) d = p
      go (no m) (yes p) = absurd (n (before_row_nl (omega arith) p))
      go (no m) (no k) = absurd (omega (arith, first_row (omega arith), a.offset))

-- later rows start behind the end of earlier ones
module _ (t : List ℕ) where
  start_mono : (r k : ℕ) → r + k < row_count t → row_start t r ≤ row_start t (r + k)
  start_mono r zero h = rw add-zero (omega arith)
  start_mono r (suc k) h =
      let sum_is : r + suc k ≡ r + k + 1 = omega arith in
      rw sum_is (omega (arith, start_mono r k (omega arith), next_start_lem t (r + k) (omega arith)))

  pub rows_apart : (r q : ℕ) → r < q → q < row_count t → row_start t r + row_len t r < row_start t q
  rows_apart r q h l =
      let sum_is : r + 1 + (q - (r + 1)) ≡ q = omega arith in
      let row_start_at_most : row_start t (r + 1) ≤ row_start t q = rw sum_is at (start_mono (r + 1) (q - (r + 1)) (omega arith)) in
      omega (arith, next_start_lem t r (omega arith))

-- so an offset has one row and one column
module _ {t : List ℕ} {r c q d at : ℕ} (a : At t r c at) (b : At t q d at) where
  pub same_row : r ≡ q
  same_row = go (dec_lt r q) (dec_lt q r)
    where
      go : Dec (r < q) → Dec (q < r) → r ≡ q
      go (yes l) e = absurd (omega (arith, rows_apart t r q l b.in_row, a.in_col, a.offset, b.offset))
      go (no l) (yes m) = absurd (omega (arith, rows_apart t q r m a.in_row, b.in_col, a.offset, b.offset))
      go (no l) (no m) = omega arith

  pub same_col : c ≡ d
  same_col = omega (arith, ap (start_in (rows t)) same_row, a.offset, b.offset)

-- the end of the text is the end of its last row
pub at_last_lem : (t : List ℕ) → At t (row_count t - 1) (row_len t (row_count t - 1)) (length t)
at_last_lem t = go (dec_lt (row_start t q + row_len t q) (length t)) (ℕ_discrete (get_or t (row_start t q + row_len t q) 0) 10)
  where
    q : ℕ
    q = row_count t - 1

    here : At t q (row_len t q) (row_start t q + row_len t q)
    here = at_end_lem t q (omega (arith, rows_pos t))

    go : Dec (row_start t q + row_len t q < length t) → Dec (get_or t (row_start t q + row_len t q) 0 ≡ 10) → At t q (row_len t q) (length t)
    go (yes l) (yes e) = absurd (omega (arith, (after_nl here l e).in_row))
    go (yes l) (no n) = absurd (omega (arith, on_char here l n))
    go (no m) d = record { in_row = here.in_row; in_col = omega arith; offset = omega (arith, at_le here) }
