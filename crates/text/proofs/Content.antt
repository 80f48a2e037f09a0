-- The rows with content, by offsets: the next row is one exactly if it starts before the end of the text.
-- Assumes nothing.
use Rattle.lists.proofs.Kit.{◌≡◌, refl, ap, sym, List, Bool, true, false, cond, ◌&&◌, and-false, ℕ, ◌+◌, ◌-◌, ◌≤◌, ◌<◌, dec_lt, ℕ_discrete, arith, length, get_or}
use Rattle.lists.proofs.Kit.{eqb, ltb, eq-eqb, ne_eqb, lt-ltb, le-ltb, ltb-true}
use Rattle.text.specs.Text.{row_count, row_len, content_rows}
use Rattle.text.specs.Offsets.{row_start}
use Rattle.text.proofs.Rows.{rows_pos}
use Rattle.text.proofs.At.{at_start, on_char, after_nl, on_end, on_last}
use Rattle.text.proofs.Before.{at_last_lem, on_first_lem, behind_nl, behind_char}

module _ (t : List ℕ) where
  -- they are all rows, or all but the last
  pub content_near : (row_count t ≤ content_rows t + 1) × (content_rows t ≤ row_count t) × (0 < content_rows t)
  content_near = go (ltb 1 (row_count t)) (eqb (row_len t (row_count t - 1)) 0) refl
    where
      go : (a b : Bool) → ltb 1 (row_count t) ≡ a →
          (row_count t ≤ cond (a && b) (row_count t - 1) (row_count t) + 1) × (cond (a && b) (row_count t - 1) (row_count t) ≤ row_count t) ×
          (0 < cond (a && b) (row_count t - 1) (row_count t))
      go true true e = omega (arith, rows_pos t, ltb-true 1 (row_count t) e)
      go true false e = omega (arith, rows_pos t)
      go false b e = omega (arith, rows_pos t)

  -- all of them, where the last row isn't empty or is row 0
  pub content_all : (row_len t (row_count t - 1) ≡ 0 → row_count t ≡ 1) → content_rows t ≡ row_count t
  content_all h = go (ℕ_discrete (row_len t (row_count t - 1)) 0)
    where
      go : Dec (row_len t (row_count t - 1) ≡ 0) → content_rows t ≡ row_count t
      go (yes e) = rw (le-ltb 1 (row_count t) (omega (arith, h e)))
      go (no n) = rw (ne_eqb _ _ n, and-false)

  -- all but the last, where that is empty and isn't row 0
  pub content_less : row_len t (row_count t - 1) ≡ 0 → 1 < row_count t → content_rows t + 1 ≡ row_count t
  content_less e h = rw (lt-ltb 1 (row_count t) h, eq-eqb _ _ e) (omega arith)

  -- so they go by the last code point
  pub content_void : length t ≡ 0 → content_rows t ≡ row_count t
  content_void e = content_all (λ z. omega (arith, on_first_lem (at_last_lem t) e, rows_pos t))

  pub content_nl : 0 < length t → get_or t (length t - 1) 0 ≡ 10 → content_rows t + 1 ≡ row_count t
  content_nl l e =
      let by_behind_nl = behind_nl (at_last_lem t) l e in
      content_less by_behind_nl.0 (omega arith)

  pub content_char : 0 < length t → (get_or t (length t - 1) 0 ≡ 10 → ⊥) → content_rows t ≡ row_count t
  content_char l n = content_all (λ z. absurd (omega (arith, behind_char (at_last_lem t) l n)))

-- a row after the first has content exactly if it starts before the end of the text
module _ (t : List ℕ) (r : ℕ) (p : 0 < r) (h : r < row_count t) where
  pub content_yes : row_start t r < length t → r < content_rows t
  content_yes l = go (dec_lt (r + 1) (row_count t)) (ℕ_discrete (get_or t (row_start t r) 0) 10)
    where
      go : Dec (r + 1 < row_count t) → Dec (get_or t (row_start t r) 0 ≡ 10) → r < content_rows t
      go (yes m) d = omega (arith, content_near t)
      go (no m) (yes e) = absurd (omega (arith, (after_nl (at_start t r h) l e).in_row))
      go (no m) (no n) =
          let row_count_less_one : row_count t - 1 ≡ r = omega arith in
          omega (arith, content_all t (λ z. absurd (omega (arith, on_char (at_start t r h) l n, ap (row_len t) row_count_less_one))))

  pub content_no : length t ≤ row_start t r → content_rows t ≡ r
  content_no l =
      let row_count_less_one : row_count t - 1 ≡ r = omega (arith, on_last (at_start t r h) l) in
      omega (arith, content_less t (rw row_count_less_one (sym (on_end (at_start t r h) l))) (omega arith))
