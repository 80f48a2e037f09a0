-- Laws of the list of rows, by the code point at an offset of the text, as a loop reads it. What stands above cites `At` instead.
-- Assumes nothing.
use Rattle.lists.proofs.Kit.{◌≡◌, refl, sym, ◌∙◌, List, [], ◌∷◌, Bool, true, false, cond, ℕ, zero, suc, ◌+◌, ◌-◌, ◌≤◌, ◌<◌, add-one, sub-one, dec_le, arith}
use Rattle.lists.proofs.Kit.{length, get_or, drop, drop_of_length-le, eqb, eq-eqb, ne_eqb}
use Rattle.text.specs.Text.{on_first, rows, row_count, row_len}
use Rattle.text.specs.Offsets.{start_in, row_start}
use Rattle.lists.specs.Lists.{split}
use Rattle.lists.proofs.Lists.{drop_at}

-- what a code point in front does to the rows
pub rows_nl : (x : ℕ) (t : List ℕ) → x ≡ 10 → rows (x ∷ t) ≡ [] ∷ rows t
unfolding rows
rows_nl x t e = rw (eq-eqb x 10 e)

pub rows_on : (x : ℕ) (t : List ℕ) → (x ≡ 10 → ⊥) → rows (x ∷ t) ≡ on_first x (rows t)
unfolding rows
rows_on x t n = rw (ne_eqb x 10 n)

pub rows_nil : rows [] ≡ [] ∷ []
unfolding rows
rows_nil = refl

-- the rows are the parts between separators
pub rows_split : (t : List ℕ) → rows t ≡ split 10 t
unfolding rows split
rows_split [] = refl
rows_split (x ∷ t) = rw (rows_split t)

-- a text has a row
pub rows_pos : (t : List ℕ) → 0 < length (rows t)
unfolding rows on_first
rows_pos [] = omega arith
rows_pos (x ∷ t) = go (eqb x 10)
  where
    front : (rs : List (List ℕ)) → 0 < length (on_first x rs)
    front [] = omega arith
    front (row ∷ rs) = omega arith

    go : (b : Bool) → 0 < length (cond b ([] ∷ rows t) (on_first x (rows t)))
    go true = omega arith
    go false = front (rows t)

-- `on_first` leaves all rows but the first alone
module _ (x : ℕ) where
  pub on_length : (rs : List (List ℕ)) → 0 < length rs → length (on_first x rs) ≡ length rs
  unfolding on_first
  on_length [] h = absurd (omega arith)
  on_length (row ∷ rs) h = refl

  pub on_head : (rs : List (List ℕ)) → get_or (on_first x rs) 0 [] ≡ x ∷ get_or rs 0 []
  unfolding on_first
  on_head [] = refl
  on_head (row ∷ rs) = refl

  pub on_later : (rs : List (List ℕ)) (k : ℕ) → 0 < length rs → drop (suc k) (on_first x rs) ≡ drop (suc k) rs
  unfolding on_first
  on_later [] k h = absurd (omega arith)
  on_later (row ∷ rs) k h = refl

  pub on_start : (rs : List (List ℕ)) (k : ℕ) → 0 < length rs → start_in (on_first x rs) (suc k) ≡ suc (start_in rs (suc k))
  unfolding on_first start_in
  on_start [] k h = absurd (omega arith)
  on_start (row ∷ rs) k h = omega arith

pub start_zero : (t : List ℕ) → row_start t 0 ≡ 0
unfolding start_in
start_zero t = refl

pub start_void : (rs : List (List ℕ)) (k : ℕ) → start_in ([] ∷ rs) (suc k) ≡ suc (start_in rs k)
unfolding start_in
start_void rs k = omega arith

-- the rows from an offset on
module _ (t : List ℕ) (i : ℕ) where
  at_nl : i < length t → get_or t i 0 ≡ 10 → rows (drop i t) ≡ [] ∷ rows (drop (i + 1) t)
  at_nl h e = rw (drop_at t i h) (rows_nl (get_or t i 0) (drop (i + 1) t) e)

  at_on : i < length t → (get_or t i 0 ≡ 10 → ⊥) → rows (drop i t) ≡ on_first (get_or t i 0) (rows (drop (i + 1) t))
  at_on h n = rw (drop_at t i h) (rows_on (get_or t i 0) (drop (i + 1) t) n)

  at_end_lem : length t ≤ i → rows (drop i t) ≡ [] ∷ []
  at_end_lem h = rw (drop_of_length-le t h) rows_nil

  -- how many they are
  pub count_nl : i < length t → get_or t i 0 ≡ 10 → row_count (drop i t) ≡ row_count (drop (i + 1) t) + 1
  count_nl h e = rw (at_nl h e) (sym (add-one _))

  pub count_on : i < length t → (get_or t i 0 ≡ 10 → ⊥) → row_count (drop i t) ≡ row_count (drop (i + 1) t)
  count_on h n = rw (at_on h n) (on_length _ _ (rows_pos _))

  pub count_end : length t ≤ i → row_count (drop i t) ≡ 1
  count_end h = rw (at_end_lem h)

  -- how long the first of them is: the rest of a row
  pub rest_nl : i < length t → get_or t i 0 ≡ 10 → row_len (drop i t) 0 ≡ 0
  rest_nl h e = rw (at_nl h e)

  pub rest_on : i < length t → (get_or t i 0 ≡ 10 → ⊥) → row_len (drop i t) 0 ≡ row_len (drop (i + 1) t) 0 + 1
  rest_on h n = rw (at_on h n, on_head _ (rows (drop (i + 1) t))) (sym (add-one _))

  pub rest_end : length t ≤ i → row_len (drop i t) 0 ≡ 0
  rest_end h = rw (at_end_lem h)

  -- where row r of them starts
  pub start_nl : (r : ℕ) → 0 < r → i < length t → get_or t i 0 ≡ 10 → row_start (drop i t) r ≡ row_start (drop (i + 1) t) (r - 1) + 1
  start_nl zero p h e = absurd (omega arith)
  start_nl (suc k) p h e = rw (at_nl h e, sub-one) (start_void _ k ∙ sym (add-one _))

  pub start_on : (r : ℕ) → 0 < r → i < length t → (get_or t i 0 ≡ 10 → ⊥) → row_start (drop i t) r ≡ row_start (drop (i + 1) t) r + 1
  start_on zero p h n = absurd (omega arith)
  start_on (suc k) p h n = rw (at_on h n) (on_start _ _ k (rows_pos _) ∙ sym (add-one _))

  -- there is another row, so the text has not ended
  pub more_rows : 1 < row_count (drop i t) → i < length t
  more_rows h = go (dec_le (length t) i)
    where
      go : Dec (length t ≤ i) → i < length t
      go (yes l) = absurd (omega (arith, count_end l))
      go (no n) = omega arith
