-- An offset beside its row and the row's start, as walks keep them: one code point on or back, and the row of an offset. Long by its steps: one code
-- point on, one back, and over a row's end. Assumes nothing.
use Rattle.lists.proofs.Kit.{◌≡◌, refl, ap, sym, ◌∙◌, List, [], ◌∷◌, Bool, true, false, cond, ℕ, zero, suc, ◌+◌, ◌-◌, ◌≤◌, ◌<◌, add-one, ℕ_discrete, arith}
use Rattle.lists.proofs.Kit.{length, get_or, eqb, ltb, eq-eqb, ne_eqb, ltb-true, ltb-false}
use Rattle.text.specs.Text.{row_count, row_len}
use Rattle.text.specs.Offsets.{row_start, At, Stands, IsLine, line_at, Reached, end_from, row_of}
use Rattle.text.specs.declared.Line.{Line}
use Rattle.text.proofs.Rows.{start_zero}
use Rattle.text.proofs.At.{at_first, at_start, at_le, at_col, after_char, after_nl, to_end}
use Rattle.text.proofs.Before.{start_ge, behind_nl, behind_char, before_row, before_col, same_row, at_last_lem}

-- i stands in row r, which lies above row `to`: what the walks down keep
pub record Above (t : List ℕ) (to r i : ℕ) : Type 0 where
  pub stands : Stands t r (row_start t r) i
  pub above : r < to

-- to and from `At`
pub stands_at_lem : {t : List ℕ} {row start at : ℕ} → Stands t row start at → At t row (at - start) at
stands_at_lem s = record { in_row = s.in_row; in_col = omega (arith, s.in_col); offset = omega (arith, s.from, s.begins) }

pub at_stands : {t : List ℕ} {r c at : ℕ} → At t r c at → (start : ℕ) → start ≡ row_start t r → Stands t r start at
at_stands a start e =
    record {
      in_row = a.in_row;
      begins = e;
      from = omega (arith, a.offset);
      in_col = omega (arith, a.in_col, a.offset);
      within = at_le a;
      below = omega (arith, a.offset, start_ge _ _ a.in_row);
    }

-- the row of an offset, one code point further
row_of_next : (t : List ℕ) (n : ℕ) → n < length t → row_of t (suc n) ≡ cond (eqb (get_or t n 0) 10) (suc (row_of t n)) (row_of t n)
unfolding row_of
row_of_next [] zero h = absurd (omega arith)
row_of_next [] (suc n) h = absurd (omega arith)
row_of_next (x ∷ t) zero h = refl
row_of_next (x ∷ t) (suc n) h = go (eqb x 10) (eqb (get_or t n 0) 10) (row_of_next t n (omega arith))
  where
    go : (a b : Bool) → row_of t (suc n) ≡ cond b (suc (row_of t n)) (row_of t n) →
        cond a (suc (row_of t (suc n))) (row_of t (suc n)) ≡ cond b (suc (cond a (suc (row_of t n)) (row_of t n))) (cond a (suc (row_of t n)) (row_of t n))
    go true true ih = ap suc ih
    go true false ih = ap suc ih
    go false true ih = ih
    go false false ih = ih

-- every offset stands in its row
pub row_there : (t : List ℕ) (at : ℕ) → at ≤ length t → At t (row_of t at) (at - row_start t (row_of t at)) at
unfolding row_of
row_there t zero h = rw (start_zero t) (at_first t)
row_there t (suc n) h = go (ℕ_discrete (get_or t n 0) 10) (row_there t n (omega arith))
  where
    place : (r c : ℕ) → row_of t (suc n) ≡ r → At t r c (suc n) → At t (row_of t (suc n)) (suc n - row_start t (row_of t (suc n))) (suc n)
    place r c e b = rw e (stands_at_lem (at_stands b (row_start t r) refl))

    go : Dec (get_or t n 0 ≡ 10) → At t (row_of t n) (n - row_start t (row_of t n)) n → At t (row_of t (suc n)) (suc n - row_start t (row_of t (suc n))) (suc n)
    go (yes e) b = place (row_of t n + 1) 0 (row_of_next t n h ∙ rw (eq-eqb _ _ e) (sym (add-one _))) (rw (add-one n) at (after_nl b h e))
    go (no m) b = place (row_of t n) _ (row_of_next t n h ∙ rw (ne_eqb _ _ m)) (rw (add-one n) at (after_char b h m))

-- a row with its start
pub first_line : (t : List ℕ) → Stands t 0 0 0
first_line t = at_stands (at_first t) 0 (sym (start_zero t))

-- the end of the text stands in its last row
pub last_stands : (t : List ℕ) → Stands t (row_count t - 1) (row_start t (row_count t - 1)) (length t)
last_stands t = at_stands (at_last_lem t) (row_start t (row_count t - 1)) refl

pub line_at_lem : (t : List ℕ) (r : ℕ) → r < row_count t → IsLine t (line_at t r)
line_at_lem t r h = at_stands (at_start t r h) (row_start t r) refl

pub line_eq : (t : List ℕ) {row start q : ℕ} → start ≡ row_start t row → row ≡ q → record { row = row; start = start } ≡ line_at t q
line_eq t {row} s e = (λ i. record { row = row; start = s i }) ∙ ap (line_at t) e

pub line_there : (t : List ℕ) (l : Line) (r : ℕ) → l ≡ line_at t r → r < row_count t → IsLine t l
line_there t l r e h = rw e (line_at_lem t r h)

-- a row that was sought from above, and the last row where the text ends before it
pub reached_row : (t : List ℕ) {row start q : ℕ} → start ≡ row_start t row → row ≡ q → row < row_count t → Reached t q record { row = row; start = start }
reached_row t e same h = record { there = λ inside. line_eq t e same; short = λ beyond. absurd (omega arith) }

pub reached_end : (t : List ℕ) {row at q : ℕ} → row < q → row + 1 ≡ row_count t → Reached t q record { row = row; start = at }
reached_end t above last = record { there = λ inside. absurd (omega arith); short = λ beyond. last }

-- the text has the row sought exactly where the one reached lies no higher
module _ (t : List ℕ) (r : ℕ) (l : Line) (reached : Reached t r l) where
  pub reached_there : r ≤ l.row → r < row_count t
  reached_there low = go (ltb r (row_count t)) refl
    where
      go : (b : Bool) → ltb r (row_count t) ≡ b → r < row_count t
      go true e = ltb-true _ _ e
      go false e =
          let beyond = ltb-false r (row_count t) e in
          absurd (omega (arith, reached.short beyond))

  pub reached_short : l.row < r → row_count t ≤ r
  reached_short high = go (ltb r (row_count t)) refl
    where
      go : (b : Bool) → ltb r (row_count t) ≡ b → row_count t ≤ r
      go true e = absurd (omega (arith, ap (λ (x : Line). x.row) (reached.there (ltb-true _ _ e))))
      go false e = ltb-false _ _ e

module _ {t : List ℕ} {row start at : ℕ} (s : Stands t row start at) where
  pub stands_own : Stands t row (row_start t row) at
  stands_own = at_stands (stands_at_lem s) (row_start t row) refl

  -- the same row, at another offset
  pub stands_in : (b : ℕ) → start ≤ b → b ≤ start + row_len t row → Stands t row start b
  stands_in b l h = at_stands (at_col (stands_at_lem s) (b - start) b (omega arith) (omega (arith, s.from))) start s.begins

  -- the end of the row
  pub stands_end : end_from t at ≡ start + row_len t row
  stands_end = omega (arith, to_end (stands_at_lem s), s.begins)

  -- one code point on
  pub step_char : at < length t → (get_or t at 0 ≡ 10 → ⊥) → Stands t row start (at + 1)
  step_char h n = at_stands (after_char (stands_at_lem s) h n) start s.begins

  pub step_nl : at < length t → get_or t at 0 ≡ 10 → Stands t (row + 1) (at + 1) (at + 1)
  step_nl h e =
      let by_after_nl = after_nl (stands_at_lem s) h e in
      at_stands by_after_nl (at + 1) (omega (arith, by_after_nl.offset))

  -- one code point back
  pub back_char : 0 < at → (get_or t (at - 1) 0 ≡ 10 → ⊥) → Stands t row start (at - 1)
  back_char h n = at_stands (before_col (stands_at_lem s) (behind_char (stands_at_lem s) h n)) start s.begins

  pub back_nl : 0 < at → get_or t (at - 1) 0 ≡ 10 → (at ≡ start) × (0 < row) × Stands t (row - 1) (row_start t (row - 1)) (at - 1)
  back_nl h e =
      let by_behind_nl = behind_nl (stands_at_lem s) h e in
      (omega (arith, s.from), by_behind_nl.1, at_stands (before_row (stands_at_lem s) by_behind_nl.0 by_behind_nl.1) (row_start t (row - 1)) refl)

  -- the row of the offset
  pub stands_row : row_of t at ≡ row
  stands_row = same_row (row_there t at s.within) (stands_at_lem s)
