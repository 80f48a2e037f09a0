-- Rows as parts of the text: where they start, how far they go, and what the text holds from one on. What stands above cites `At` instead.
-- Assumes nothing.
use Rattle.lists.proofs.Kit.{◌≡◌, ap, ◌∙◌, List, [], ◌∷◌, ◌++◌, ℕ, zero, suc, ◌+◌, ◌≤◌, ◌<◌, add-zero, add-one, ℕ_discrete, arith, length, get_or, take, drop}
use Rattle.lists.proofs.Kit.{length-take, length-drop, drop-cons, get_or-drop, drop-drop}
use Rattle.text.specs.Text.{rows, row_count, row_at, row_len}
use Rattle.text.specs.Offsets.{start_in, row_start}
use Rattle.text.proofs.Rows.{rows_nl, rows_on, rows_nil, rows_pos, on_length, on_head, on_later, on_start, start_void, start_zero}

-- how many rows there are behind one code point
module _ (x : ℕ) (u : List ℕ) where
  pub count_cons_nl : x ≡ 10 → row_count (x ∷ u) ≡ suc (row_count u)
  count_cons_nl e = ap length (rows_nl x u e)

  pub count_cons_on : (x ≡ 10 → ⊥) → row_count (x ∷ u) ≡ row_count u
  count_cons_on n = ap length (rows_on x u n) ∙ on_length x (rows u) (rows_pos u)

-- how many rows two parts have together: the last of the first goes on in the second
pub count_both : (t u : List ℕ) → row_count (t ++ u) + 1 ≡ row_count t + row_count u
count_both [] u = omega (arith, ap length rows_nil)
count_both (x ∷ t) u = go (ℕ_discrete x 10) (count_both t u)
  where
    go : Dec (x ≡ 10) → row_count (t ++ u) + 1 ≡ row_count t + row_count u → row_count ((x ∷ t) ++ u) + 1 ≡ row_count (x ∷ t) + row_count u
    go (yes e) ih = omega (arith, count_cons_nl x t e, count_cons_nl x (t ++ u) e, ih)
    go (no n) ih = omega (arith, count_cons_on x t n, count_cons_on x (t ++ u) n, ih)

-- the text from the start of row r on has the rows from r on, and that start lies within the text
record From (t : List ℕ) (r : ℕ) : Type 0 where
  has : rows (drop (row_start t r) t) ≡ drop r (rows t)
  within : row_start t r ≤ length t

from_row : (t : List ℕ) (r : ℕ) → r < row_count t → From t r
from_row [] zero h = record { has = rw (start_zero []); within = omega (arith, start_zero []) }
from_row (x ∷ u) zero h = record { has = rw (start_zero (x ∷ u)); within = omega (arith, start_zero (x ∷ u)) }
from_row [] (suc r) h = absurd (omega (arith, ap length rows_nil))
from_row (x ∷ u) (suc k) h = go (ℕ_discrete x 10) (λ r p. from_row u r p)
  where
    go : Dec (x ≡ 10) → ((r : ℕ) → r < row_count u → From u r) → From (x ∷ u) (suc k)
    go (yes e) ih =
        let by_ih = ih k (omega (arith, count_cons_nl x u e)) in
        let row_start_is : row_start (x ∷ u) (suc k) ≡ suc (row_start u k) = rw (rows_nl x u e) (start_void (rows u) k) in
        record { has = rw (row_start_is, rows_nl x u e) by_ih.has; within = omega (arith, by_ih.within) }
    go (no n) ih =
        let by_ih = ih (suc k) (omega (arith, count_cons_on x u n)) in
        let row_start_is : row_start (x ∷ u) (suc k) ≡ suc (row_start u (suc k)) = rw (rows_on x u n) (on_start x (rows u) k (rows_pos u)) in
        record { has = rw (row_start_is, rows_on x u n, on_later x (rows u) k (rows_pos u)) by_ih.has; within = omega (arith, by_ih.within) }

-- the first row is the front of the text
first_front : (t : List ℕ) → row_at t 0 ≡ take (row_len t 0) t
first_front [] = rw rows_nil
first_front (x ∷ u) = go (ℕ_discrete x 10) (first_front u)
  where
    go : Dec (x ≡ 10) → row_at u 0 ≡ take (row_len u 0) u → row_at (x ∷ u) 0 ≡ take (row_len (x ∷ u) 0) (x ∷ u)
    go (yes e) ih = rw (rows_nl x u e)
    go (no n) ih = rw (rows_on x u n, on_head x (rows u)) (ap (λ (l : List ℕ). x ∷ l) ih)

-- from an index of its first row on, a text has the rest of that row, and the rows after it
in_first : (u : List ℕ) (c : ℕ) → c ≤ row_len u 0 → rows (drop c u) ≡ drop c (row_at u 0) ∷ drop 1 (rows u)
in_first [] zero h = drop-cons (rows []) 0 [] (rows_pos [])
in_first (x ∷ u) zero h = drop-cons (rows (x ∷ u)) 0 [] (rows_pos (x ∷ u))
in_first [] (suc c) h = absurd (omega (arith, ap (λ (l : List (List ℕ)). length (get_or l 0 [])) rows_nil))
in_first (x ∷ u) (suc c) h = go (ℕ_discrete x 10) (λ p. in_first u c p)
  where
    go : Dec (x ≡ 10) → (c ≤ row_len u 0 → rows (drop c u) ≡ drop c (row_at u 0) ∷ drop 1 (rows u)) →
        rows (drop c u) ≡ drop (suc c) (row_at (x ∷ u) 0) ∷ drop 1 (rows (x ∷ u))
    go (yes e) ih = absurd (omega (arith, ap (λ (l : List (List ℕ)). length (get_or l 0 [])) (rows_nl x u e)))
    go (no n) ih =
        let row_is : row_at (x ∷ u) 0 ≡ x ∷ row_at u 0 = rw (rows_on x u n) (on_head x (rows u)) in
        rw (row_is, rows_on x u n, on_later x (rows u) 0 (rows_pos u)) (ih (omega (arith, ap length row_is)))

-- row r of the text
module _ (t : List ℕ) (r : ℕ) (h : r < row_count t) where
  row_first : row_at t r ≡ row_at (drop (row_start t r) t) 0
  row_first = rw ((from_row t r h).has, get_or-drop r (rows t) 0 [], add-zero)

  pub row_part : row_at t r ≡ take (row_len t r) (drop (row_start t r) t)
  row_part = rw row_first (first_front (drop (row_start t r) t))

  -- it lies within the text
  pub row_fits : row_start t r + row_len t r ≤ length t
  row_fits = omega (arith, (from_row t r h).within, ap length row_part, length-take (row_len t r) (drop (row_start t r) t), length-drop (row_start t r) t)

  -- from its column c on, the text has the rest of the row, and the rows after it
  pub rows_at : (c : ℕ) → c ≤ row_len t r → rows (drop (row_start t r + c) t) ≡ drop c (row_at t r) ∷ drop (r + 1) (rows t)
  rows_at c l = rw (
    ← drop-drop c (row_start t r) t,
    in_first (drop (row_start t r) t) c (omega (arith, ap length row_first)),
    ← row_first,
    (from_row t r h).has,
    drop-drop 1 r (rows t),
  )

-- where the next row starts
start_next : (rs : List (List ℕ)) (r : ℕ) → r < length rs → start_in rs (suc r) ≡ start_in rs r + length (get_or rs r []) + 1
unfolding start_in
start_next [] zero h = absurd (omega arith)
start_next [] (suc r) h = absurd (omega arith)
start_next (row ∷ rs) zero h = omega arith
start_next (row ∷ rs) (suc r) h = omega (arith, start_next rs r (omega arith))

pub next_start_lem : (t : List ℕ) (r : ℕ) → r < row_count t → row_start t (r + 1) ≡ row_start t r + row_len t r + 1
next_start_lem t r h = rw (add-one r) (start_next (rows t) r h)

-- a text of n code points has at most n + 1 rows
pub count_le : (t : List ℕ) → row_count t ≤ length t + 1
count_le [] = omega (arith, ap length rows_nil)
count_le (x ∷ u) = go (ℕ_discrete x 10) (count_le u)
  where
    go : Dec (x ≡ 10) → row_count u ≤ length u + 1 → row_count (x ∷ u) ≤ length (x ∷ u) + 1
    go (yes e) ih = omega (arith, count_cons_nl x u e)
    go (no n) ih = omega (arith, count_cons_on x u n)
