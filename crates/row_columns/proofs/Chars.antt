-- Which character holds a visual column, over any width function w and tabstop. Assumes nothing.
use Rattle.lists.proofs.Kit.{◌≡◌, refl, sym, List, [], ◌∷◌, ◌||◌, ℕ, suc, ◌+◌, ◌*◌, ◌≤◌, ◌<◌, dec_le, dec_lt, ℕ_discrete, arith, length, get_or, drop}
use Rattle.lists.proofs.Kit.{drop_of_length-le, eqb, leb, eq-eqb, ne_eqb, le-leb, lt-leb}
use Rattle.lists.proofs.Lists.{drop_at}
use Rattle.row_tabs.specs.Cells.{cells_at}
use Rattle.row_columns.specs.Columns.{visual_from, char_from}
use Rattle.row_columns.proofs.Visual.{visual_zero, visual_cons, visual_past, visual_rises}

-- from visual column v on, a character is passed over exactly if its cells end at c or before
passes : (v a c : ℕ) → v ≤ c → (eqb a 0 || leb (v + a) c) ≡ leb (v + a) c
passes v a c h = go (ℕ_discrete a 0)
  where
    go : Dec (a ≡ 0) → (eqb a 0 || leb (v + a) c) ≡ leb (v + a) c
    go (yes e) = rw (eq-eqb a 0 e) (sym (le-leb (v + a) c (omega arith)))
    go (no n) = rw (ne_eqb a 0 n)

module _ (w : ℕ → ℕ) (tab v c : ℕ) (h : v ≤ c) where
  pub char_on : (x : ℕ) (row : List ℕ) → v + cells_at w tab v x ≤ c → char_from w tab v (x ∷ row) c ≡ suc (char_from w tab (v + cells_at w tab v x) row c)
  unfolding char_from
  char_on x row l = rw (passes v (cells_at w tab v x) c h, le-leb (v + cells_at w tab v x) c l)

  pub char_here : (x : ℕ) (row : List ℕ) → c < v + cells_at w tab v x → char_from w tab v (x ∷ row) c ≡ 0
  unfolding char_from
  char_here x row l = rw (passes v (cells_at w tab v x) c h, lt-leb (v + cells_at w tab v x) c l)

pub char_none : (w : ℕ → ℕ) (tab v c : ℕ) → char_from w tab v [] c ≡ 0
unfolding char_from
char_none w tab v c = refl

-- character k holds visual column c in a row that begins at v: it does not begin after c, and ends after it; or it is past the row's end
pub record Holds (w : ℕ → ℕ) (tab v : ℕ) (row : List ℕ) (c k : ℕ) : Type 0 where
  pub within : k ≤ length row
  pub low : visual_from w tab v row k ≤ c
  pub high : k < length row → c < visual_from w tab v row (suc k)

module _ (w : ℕ → ℕ) (tab c : ℕ) where
  pub char_holds : (v : ℕ) (row : List ℕ) → v ≤ c → Holds w tab v row c (char_from w tab v row c)
  char_holds v [] h = rw (char_none w tab v c) (record { within = omega arith; low = rw visual_zero h; high = λ k. absurd (omega arith) })
  char_holds v (x ∷ row) h = go (dec_le (v + cells_at w tab v x) c) (λ l. char_holds (v + cells_at w tab v x) row l)
    where
      go : Dec (v + cells_at w tab v x ≤ c) →
          (v + cells_at w tab v x ≤ c → Holds w tab (v + cells_at w tab v x) row c (char_from w tab (v + cells_at w tab v x) row c)) →
          Holds w tab v (x ∷ row) c (char_from w tab v (x ∷ row) c)
      go (yes l) rest =
          let by_rest = rest l in
          rw (char_on w tab v c h x row l)
          (record { within = omega (arith, by_rest.within); low = rw visual_cons by_rest.low; high = λ k. rw visual_cons (by_rest.high (omega arith)) })
      go (no l) rest = rw (char_here w tab v c h x row (omega arith))
          (record { within = omega arith; low = rw visual_zero h; high = λ k. rw (visual_cons, visual_zero) (omega arith) })

  -- no other does
  pub holds_only : {row : List ℕ} {k i : ℕ} → Holds w tab 0 row c k → visual_from w tab 0 row i ≤ c → c < visual_from w tab 0 row (i + 1) → k ≡ i
  holds_only {row} {k} {i} found low high = go (dec_lt i k) (dec_lt k i) (dec_lt i (length row))
    where
      go : Dec (i < k) → Dec (k < i) → Dec (i < length row) → k ≡ i
      go (yes l) d n = absurd (omega (arith, visual_rises w tab 0 row (i + 1) k (omega arith), found.low))
      go (no l) (yes m) (yes n) = absurd (omega (arith, visual_rises w tab 0 row (suc k) i m, found.high (omega arith)))
      go (no l) (yes m) (no n) = absurd (omega (arith, visual_past w tab 0 row i (omega arith), visual_past w tab 0 row (i + 1) (omega arith)))
      go (no l) (no m) n = omega arith

-- the walk of `char_at`, before character i at visual column `visual`: the one sought is not among those passed
pub record CharTo (w : ℕ → ℕ) (tab : ℕ) (row : List ℕ) (c i visual : ℕ) : Type 0 where
  pub inside : i ≤ length row
  pub fits : visual ≤ 1000 * i
  pub low : visual ≤ c
  pub rest : char_from w tab 0 row c ≡ i + char_from w tab visual (drop i row) c

pub char_start : (w : ℕ → ℕ) (tab : ℕ) (row : List ℕ) (c : ℕ) → CharTo w tab row c 0 0
char_start w tab row c = record { inside = omega arith; fits = omega arith; low = omega arith; rest = omega arith }

module _ {w : ℕ → ℕ} {tab : ℕ} {row : List ℕ} {c i visual : ℕ} (so_far : CharTo w tab row c i visual) where
  module _ {cells : ℕ} (h : i < length row) (e : cells ≡ cells_at w tab visual (get_or row i 0)) where
    pub char_next : cells ≤ 1000 → visual + cells ≤ c → CharTo w tab row c (i + 1) (visual + cells)
    char_next most l =
        let value = get_or row i 0 in
        let step : char_from w tab visual (drop i row) c ≡ suc (char_from w tab (visual + cells) (drop (i + 1) row) c) =
        rw (drop_at row i h, e) (char_on w tab visual c so_far.low value (drop (i + 1) row) (rw e at l)) in
        record { inside = omega arith; fits = omega (arith, so_far.fits); low = l; rest = omega (arith, so_far.rest, step) }

    pub char_stop : c < visual + cells → i ≡ char_from w tab 0 row c
    char_stop l =
        let value = get_or row i 0 in
        let none : char_from w tab visual (drop i row) c ≡ 0 =
        rw (drop_at row i h) (char_here w tab visual c so_far.low value (drop (i + 1) row) (rw e at l)) in
        omega (arith, so_far.rest, none)

  pub char_end : length row ≤ i → length row ≡ char_from w tab 0 row c
  char_end h =
      let none : char_from w tab visual (drop i row) c ≡ 0 = rw (drop_of_length-le row h) (char_none w tab visual c) in
      omega (arith, so_far.inside, so_far.rest, none)
