-- Laws of row starts: how many there are, where they stand, and those of two parts of a text. On plain lists. Assumes nothing.
use Rattle.lists.proofs.Kit.{◌≡◌, refl, ap, sym, List, [], ◌∷◌, ◌++◌, map, ℕ, zero, suc, ◌+◌, ◌≤◌, ◌<◌, add-zero, ℕ_discrete, arith, length, get_or, drop}
use Rattle.lists.proofs.Kit.{drop_of_length-le, eq-eqb, ne_eqb}
use Rattle.lists.proofs.Lists.{drop_at}
use Rattle.text.specs.Text.{rows, row_count}
use Rattle.text.specs.Offsets.{row_start}
use Rattle.text.proofs.Rows.{rows_nl, rows_on, rows_nil, rows_pos, on_start, start_void, start_zero}
use Rattle.text.proofs.Parts.{count_cons_nl, count_cons_on}
use Rattle.row_table.specs.Table.{starts_from, row_starts}

-- behind one code point
module _ (at x : ℕ) (part : List ℕ) where
  pub starts_nl : x ≡ 10 → starts_from at (x ∷ part) ≡ suc at ∷ starts_from (suc at) part
  unfolding starts_from
  starts_nl e = rw (eq-eqb x 10 e)

  pub starts_on : (x ≡ 10 → ⊥) → starts_from at (x ∷ part) ≡ starts_from (suc at) part
  unfolding starts_from
  starts_on n = rw (ne_eqb x 10 n)

pub starts_nil : (at : ℕ) → starts_from at [] ≡ []
unfolding starts_from
starts_nil at = refl

-- one for each separator
pub starts_length : (at : ℕ) (part : List ℕ) → length (starts_from at part) + 1 ≡ row_count part
starts_length at [] = omega (arith, ap length (starts_nil at), ap length rows_nil)
starts_length at (x ∷ part) = go (ℕ_discrete x 10) (starts_length (suc at) part)
  where
    go : Dec (x ≡ 10) → length (starts_from (suc at) part) + 1 ≡ row_count part → length (starts_from at (x ∷ part)) + 1 ≡ row_count (x ∷ part)
    go (yes e) ih = omega (arith, ap length (starts_nl at x part e), count_cons_nl x part e)
    go (no n) ih = omega (arith, ap length (starts_on at x part n), count_cons_on x part n)

pub rows_length : (t : List ℕ) → length (row_starts t) ≡ row_count t
rows_length t = omega (arith, starts_length 0 t)

-- each is where its row starts
starts_read : (at : ℕ) (part : List ℕ) (r : ℕ) → suc r < row_count part → get_or (starts_from at part) r 0 ≡ at + row_start part (suc r)
starts_read at [] r h = absurd (omega (arith, ap length rows_nil))
starts_read at (x ∷ part) zero h = go (ℕ_discrete x 10) (λ l. starts_read (suc at) part zero l)
  where
    go : Dec (x ≡ 10) → (1 < row_count part → get_or (starts_from (suc at) part) 0 0 ≡ suc at + row_start part 1) →
        get_or (starts_from at (x ∷ part)) 0 0 ≡ at + row_start (x ∷ part) 1
    go (yes e) ih = rw (starts_nl at x part e, rows_nl x part e) (omega (arith, start_void (rows part) 0, start_zero part))
    go (no n) ih = rw (starts_on at x part n, rows_on x part n)
        (omega (arith, ih (omega (arith, count_cons_on x part n)), on_start x (rows part) 0 (rows_pos part)))
starts_read at (x ∷ part) (suc k) h = go (ℕ_discrete x 10) (λ r l. starts_read (suc at) part r l)
  where
    go : Dec (x ≡ 10) → ((r : ℕ) → suc r < row_count part → get_or (starts_from (suc at) part) r 0 ≡ suc at + row_start part (suc r)) →
        get_or (starts_from at (x ∷ part)) (suc k) 0 ≡ at + row_start (x ∷ part) (suc (suc k))
    go (yes e) ih = rw (starts_nl at x part e, rows_nl x part e) (omega (arith, ih k (omega (arith, count_cons_nl x part e)), start_void (rows part) (suc k)))
    go (no n) ih = rw (starts_on at x part n, rows_on x part n)
        (omega (arith, ih (suc k) (omega (arith, count_cons_on x part n)), on_start x (rows part) (suc k) (rows_pos part)))

pub rows_read : (t : List ℕ) (r : ℕ) → r < row_count t → get_or (row_starts t) r 0 ≡ row_start t r
rows_read t zero h = sym (start_zero t)
rows_read t (suc r) h = omega (arith, starts_read 0 t r h)

-- of a part and what follows it
pub starts_append : (at : ℕ) (a b : List ℕ) → starts_from at (a ++ b) ≡ starts_from at a ++ starts_from (at + length a) b
starts_append at [] b = rw (starts_nil at, add-zero at)
starts_append at (x ∷ a) b = go (ℕ_discrete x 10) (starts_append (suc at) a b)
  where
    next : suc at + length a ≡ at + suc (length a)
    next = omega arith

    go : Dec (x ≡ 10) → starts_from (suc at) (a ++ b) ≡ starts_from (suc at) a ++ starts_from (suc at + length a) b →
        starts_from at (x ∷ a ++ b) ≡ starts_from at (x ∷ a) ++ starts_from (at + suc (length a)) b
    go (yes e) ih = rw (starts_nl at x (a ++ b) e, starts_nl at x a e, ih, next)
    go (no n) ih = rw (starts_on at x (a ++ b) n, starts_on at x a n, ih, next)

-- of a part that moves from one offset to another, with any offset in it
module _ (f : ℕ → ℕ) (at to : ℕ) (moves : (j : ℕ) → f (at + j) ≡ to + j) where
  pub starts_moved : (j : ℕ) (part : List ℕ) → starts_from (to + j) part ≡ map f (starts_from (at + j) part)
  starts_moved j [] = rw (starts_nil (at + j), starts_nil (to + j))
  starts_moved j (x ∷ part) = go (ℕ_discrete x 10) (starts_moved (j + 1) part)
    where
      here : suc (at + j) ≡ at + (j + 1)
      here = omega arith

      there : suc (to + j) ≡ to + (j + 1)
      there = omega arith

      go : Dec (x ≡ 10) → starts_from (to + (j + 1)) part ≡ map f (starts_from (at + (j + 1)) part) →
          starts_from (to + j) (x ∷ part) ≡ map f (starts_from (at + j) (x ∷ part))
      go (yes e) ih = rw (starts_nl (to + j) x part e, starts_nl (at + j) x part e, here, there, moves (j + 1), ih)
      go (no n) ih = rw (starts_on (to + j) x part n, starts_on (at + j) x part n, here, there, ih)

-- from an index of the part on
module _ (at : ℕ) (part : List ℕ) (i : ℕ) where
  next_is : suc (at + i) ≡ at + (i + 1)
  next_is = omega arith

  pub from_nl : i < length part → get_or part i 0 ≡ 10 → starts_from (at + i) (drop i part) ≡ (at + (i + 1)) ∷ starts_from (at + (i + 1)) (drop (i + 1) part)
  from_nl h e = rw (drop_at part i h, ← next_is) (starts_nl (at + i) (get_or part i 0) (drop (i + 1) part) e)

  pub from_on : i < length part → (get_or part i 0 ≡ 10 → ⊥) → starts_from (at + i) (drop i part) ≡ starts_from (at + (i + 1)) (drop (i + 1) part)
  from_on h n = rw (drop_at part i h, ← next_is) (starts_on (at + i) (get_or part i 0) (drop (i + 1) part) n)

  pub from_end_lem : length part ≤ i → starts_from (at + i) (drop i part) ≡ []
  from_end_lem h = rw (drop_of_length-le part {i = i} h) (starts_nil (at + i))
