-- Row, column and offset: the laws by which a walk on offsets follows a definition on rows and columns, with no list of rows in sight.
-- Assumes nothing.
use Rattle.lists.proofs.Kit.{◌≡◌, refl, ap, ◌∙◌, List, [], ◌∷◌, ℕ, ◌+◌, ◌-◌, ◌≤◌, ◌<◌, dec_lt, ℕ_discrete, arith, length, get_or, drop, length-drop, get_or-drop}
use Rattle.lists.proofs.Kit.{get_or-take}
use Rattle.text.specs.Text.{rows, row_count, row_at, row_len}
use Rattle.text.specs.Offsets.{row_start, At}
use Rattle.text.proofs.Rows.{rows_pos, start_zero, count_nl, count_end, rest_nl, rest_on, rest_end}
use Rattle.text.proofs.Parts.{row_part, row_fits, rows_at, next_start_lem}

-- the first place of the text, of a row, and the end of a row
pub at_first : (t : List ℕ) → At t 0 0 0
at_first t = record { in_row = rows_pos t; in_col = omega arith; offset = omega (arith, start_zero t) }

module _ (t : List ℕ) (r : ℕ) (h : r < row_count t) where
  pub at_start : At t r 0 (row_start t r)
  at_start = record { in_row = h; in_col = omega arith; offset = omega arith }

  pub at_end_lem : At t r (row_len t r) (row_start t r + row_len t r)
  at_end_lem = record { in_row = h; in_col = omega arith; offset = refl }

module _ {t : List ℕ} {r c at : ℕ} (a : At t r c at) where
  pub at_le : at ≤ length t
  at_le = omega (arith, row_fits t r a.in_row, a.in_col, a.offset)

  -- the same row, at another column
  pub at_col : (d e : ℕ) → d ≤ row_len t r → e + c ≡ at + d → At t r d e
  at_col d e l s = record { in_row = a.in_row; in_col = l; offset = omega (arith, a.offset) }

  rest : rows (drop at t) ≡ drop c (row_at t r) ∷ drop (r + 1) (rows t)
  rest = rw a.offset (rows_at t r a.in_row c a.in_col)

  left_in_row : row_len (drop at t) 0 ≡ row_len t r - c
  left_in_row = ap (λ (l : List (List ℕ)). length (get_or l 0 [])) rest ∙ length-drop c (row_at t r)

  left_rows : row_count (drop at t) + r ≡ row_count t
  left_rows = omega (arith, ap length rest, length-drop (r + 1) (rows t), a.in_row)

  -- the row's end is as far off as the rest of the row is long
  pub to_end : at + row_len (drop at t) 0 ≡ row_start t r + row_len t r
  to_end = omega (arith, left_in_row, a.in_col, a.offset)

  -- on a code point of the row
  module _ (h : at < length t) (n : get_or t at 0 ≡ 10 → ⊥) where
    pub on_char : c < row_len t r
    on_char = omega (arith, left_in_row, rest_on t at h n)

    pub after_char : At t r (c + 1) (at + 1)
    after_char = at_col (c + 1) (at + 1) (omega (arith, on_char)) (omega arith)

  -- on a separator: the column is the row's end, and the next row starts behind it
  module _ (h : at < length t) (e : get_or t at 0 ≡ 10) where
    pub on_nl : c ≡ row_len t r
    on_nl = omega (arith, left_in_row, rest_nl t at h e, a.in_col)

    pub after_nl : At t (r + 1) 0 (at + 1)
    after_nl =
        record {
          in_row = omega (arith, left_rows, count_nl t at h e, rows_pos (drop (at + 1) t));
          in_col = omega arith;
          offset = omega (arith, next_start_lem t r a.in_row, on_nl, a.offset);
        }

  -- at the end of the text: the column is the row's end, and the row is the last
  module _ (h : length t ≤ at) where
    pub on_end : c ≡ row_len t r
    on_end = omega (arith, left_in_row, rest_end t at h, a.in_col)

    pub on_last : r + 1 ≡ row_count t
    on_last = omega (arith, left_rows, count_end t at h)

  -- the other way round: a column before the row's end is on a code point of the row
  pub char_there : c < row_len t r → (at < length t) × (get_or t at 0 ≡ 10 → ⊥)
  char_there l = (within, λ e. omega (arith, on_nl within e))
    where
      within : at < length t
      within = omega (arith, row_fits t r a.in_row, a.offset)

  -- and the row's end is on a separator, where there is a row after it
  pub nl_there : c ≡ row_len t r → r + 1 < row_count t → (at < length t) × (get_or t at 0 ≡ 10)
  nl_there e l = go (dec_lt at (length t)) (ℕ_discrete (get_or t at 0) 10)
    where
      go : Dec (at < length t) → Dec (get_or t at 0 ≡ 10) → (at < length t) × (get_or t at 0 ≡ 10)
      go (no m) d = absurd (omega (arith, on_last (omega arith)))
      go (yes h) (no n) = absurd (omega (arith, on_char h n))
      go (yes h) (yes s) = (h, s)

  -- the code point of the row at the column
  pub point_at : c < row_len t r → get_or (row_at t r) c 0 ≡ get_or t at 0
  point_at l = rw (row_part t r a.in_row, get_or-take (row_len t r) (drop (row_start t r) t) c 0 l, get_or-drop (row_start t r) t c 0, ← a.offset)
