-- A walk on offsets goes through the rounds of `<Space>` and `<BS>`, by the code points around it.
-- Assumes nothing.
use Rattle.lists.proofs.Kit.{◌≡◌, ap, sym, ◌∙◌, List, ℕ, ◌+◌, ◌-◌, ◌≤◌, ◌<◌, dec_lt, arith, length, get_or, lt-ltb, le-ltb}
use Rattle.text.specs.Text.{row_count, row_len, position}
use Rattle.text.specs.declared.Line.{Line}
use Rattle.text.specs.Offsets.{row_start, Stands, line_at}
use Rattle.text.proofs.At.{on_char, on_nl, on_end, on_last, after_nl}
use Rattle.text.proofs.Before.{on_first_lem, behind_char}
use Rattle.text.proofs.Stands.{stands_at_lem, step_char, back_nl}
use Rattle.text.specs.declared.Position.{Position}
use Rattle.lists.specs.Rounds.{rounds}
use Rattle.steps.specs.Steps.{space_fwd, backspace_back}
use Rattle.lists.proofs.Rounds.{rounds_on, rounds_none, rounds_still}

-- n rounds from p are those that are left behind i rounds, from the place of the walk, in a text that isn't too long
pub record Going (f : Position → Position) (p : Position) (n : ℕ) (t : List ℕ) (row start at i : ℕ) : Type 0 where
  pub stands : Stands t row start at
  pub same : rounds f n p ≡ rounds f (n - i) (position row (at - start))
  pub brief : length t ≤ 1048576

-- at the start, at the position itself
pub going_start : (f : Position → Position) (p : Position) (n : ℕ) {t : List ℕ} (start at : ℕ) → Stands t p.row start at → at ≡ start + p.col →
    length t ≤ 1048576 → Going f p n t p.row start at 0
going_start f p n start at s a b =
    let here : p.col ≡ at - start = omega arith in
    let all : n - 0 ≡ n = omega arith in
    record { stands = s; same = rw (all, ← here); brief = b }

module _ {f : Position → Position} {p : Position} {n : ℕ} {t : List ℕ} {row start at i : ℕ} (g : Going f p n t row start at i) where
  -- one round, to another place
  pub going_on_lem : (r s b : ℕ) → i < n → Stands t r s b → f (position row (at - start)) ≡ position r (b - s) → Going f p n t r s b (i + 1)
  going_on_lem r s b h w e =
      let rest : n - i - 1 ≡ n - (i + 1) = omega arith in
      record { stands = w; same = g.same ∙ rounds_on f (n - i) _ (omega arith) ∙ ap (rounds f (n - i - 1)) e ∙ ap (λ (k : ℕ). rounds f k (position r (b - s))) rest; brief = g.brief }

  -- none are left, or the round stops
  pub going_done : n ≤ i → position row (at - start) ≡ rounds f n p
  going_done h = sym (g.same ∙ rounds_none f (n - i) _ (omega arith))

  pub going_stop : f (position row (at - start)) ≡ position row (at - start) → position row (at - start) ≡ rounds f n p
  going_stop e = sym (g.same ∙ rounds_still f (n - i) _ e)

-- a walk that began at column p .col of its row, which begins at `start`, began at p
pub going_from : (f : Position → Position) (n : ℕ) (p : Position) (start own : ℕ) → start ≡ own →
    rounds f n (position p.row (start + p.col - own)) ≡ rounds f n p
going_from f n p start own e =
    let col : start + p.col - own ≡ p.col = omega arith in
    ap (λ (c : ℕ). rounds f n (position p.row c)) col

-- the row that `up` finds where it goes up no row
pub up_start : (t : List ℕ) (l : Line) (row : ℕ) → l ≡ line_at t (row - 0) → l.start ≡ row_start t row
up_start t l row e = let row_less_zero : row - 0 ≡ row = omega arith in ap (λ (x : Line). x.start) e ∙ ap (row_start t) row_less_zero

-- one round of `<Space>`
module _ {t : List ℕ} {row start at : ℕ} (s : Stands t row start at) where
  -- from the last column on: to the next row, or it stops
  space_next : row_len t row ≤ at - start + 1 → row + 1 < row_count t → space_fwd t (position row (at - start)) ≡ position (row + 1) 0
  unfolding space_fwd
  space_next h l = rw (le-ltb (at - start) (row_len t row - 1) (omega arith), lt-ltb (row + 1) (row_count t) l)

  space_stay : row_len t row ≤ at - start + 1 → row + 1 ≡ row_count t → space_fwd t (position row (at - start)) ≡ position row (at - start)
  unfolding space_fwd
  space_stay h l = rw (le-ltb (at - start) (row_len t row - 1) (omega arith), le-ltb (row + 1) (row_count t) (omega arith))

  pub space_end : length t ≤ at → space_fwd t (position row (at - start)) ≡ position row (at - start)
  space_end h = space_stay (omega (arith, on_end (stands_at_lem s) h)) (on_last (stands_at_lem s) h)

  module _ (h : at < length t) where
    pub space_nl : get_or t at 0 ≡ 10 → space_fwd t (position row (at - start)) ≡ position (row + 1) (at + 1 - (at + 1))
    space_nl e =
        let zero_col : at + 1 - (at + 1) ≡ 0 = omega arith in
        rw zero_col (space_next (omega (arith, on_nl (stands_at_lem s) h e)) (after_nl (stands_at_lem s) h e).in_row)

    module _ (n : get_or t at 0 ≡ 10 → ⊥) where
      here : Stands t row start (at + 1)
      here = step_char s h n

      pub space_last : length t ≤ at + 1 → space_fwd t (position row (at - start)) ≡ position row (at - start)
      space_last l = space_stay (omega (arith, on_end (stands_at_lem here) l, s.from)) (on_last (stands_at_lem here) l)

      pub space_wrap : at + 1 < length t → get_or t (at + 1) 0 ≡ 10 → space_fwd t (position row (at - start)) ≡ position (row + 1) (at + 1 + 1 - (at + 1 + 1))
      space_wrap l e =
          let zero_col : at + 1 + 1 - (at + 1 + 1) ≡ 0 = omega arith in
          rw zero_col (space_next (omega (arith, on_nl (stands_at_lem here) l e, s.from)) (after_nl (stands_at_lem here) l e).in_row)

      pub space_on : at + 1 < length t → (get_or t (at + 1) 0 ≡ 10 → ⊥) → space_fwd t (position row (at - start)) ≡ position row (at + 1 - start)
      unfolding space_fwd
      space_on l m =
          let next_col : at - start + 1 ≡ at + 1 - start = omega (arith, s.from) in
          rw (lt-ltb (at - start) (row_len t row - 1) (omega (arith, on_char (stands_at_lem here) l m, s.from)), next_col)

-- one round of `<BS>`
module _ {t : List ℕ} {row at : ℕ} (s : Stands t row (row_start t row) at) where
  pub back_first : at ≡ 0 → (row ≡ 0) × (backspace_back t (position row (at - row_start t row)) ≡ position row (at - row_start t row))
  unfolding backspace_back
  back_first e =
      let by_on_first = on_first_lem (stands_at_lem s) e in
      (by_on_first.0, rw (le-ltb 0 (at - row_start t row) (omega arith), le-ltb 0 row (omega arith)))

  module _ (h : 0 < at) where
    pub back_on : (get_or t (at - 1) 0 ≡ 10 → ⊥) → backspace_back t (position row (at - row_start t row)) ≡ position row (at - 1 - row_start t row)
    unfolding backspace_back
    back_on n =
        let before_col : at - row_start t row - 1 ≡ at - 1 - row_start t row = omega arith in
        rw (lt-ltb 0 (at - row_start t row) (behind_char (stands_at_lem s) h n), before_col)

    module _ (e : get_or t (at - 1) 0 ≡ 10) where
      -- the end of the row before
      pub back_end : Stands t (row - 1) (row_start t (row - 1)) (at - 1)
      back_end = (back_nl s h e).2

      back_long : at - 1 ≡ row_start t (row - 1) + row_len t (row - 1)
      back_long = omega (arith, on_nl (stands_at_lem back_end) (omega (arith, s.within)) e, back_end.from)

      back_row : backspace_back t (position row (at - row_start t row)) ≡ position (row - 1) (row_len t (row - 1) - 1)
      unfolding backspace_back
      back_row = rw (le-ltb 0 (at - row_start t row) (omega (arith, (back_nl s h e).0)), lt-ltb 0 row (back_nl s h e).1)

      -- that row is empty, or ends in another character
      pub back_void : (0 < at - 1 → get_or t (at - 1 - 1) 0 ≡ 10) →
          backspace_back t (position row (at - row_start t row)) ≡ position (row - 1) (at - 1 - row_start t (row - 1))
      back_void v = back_row ∙ ap (position (row - 1)) (go (dec_lt 0 (at - 1)))
        where
          go : Dec (0 < at - 1) → row_len t (row - 1) - 1 ≡ at - 1 - row_start t (row - 1)
          go (yes p) = omega (arith, back_long, (back_nl back_end p (v p)).0)
          go (no m) = omega (arith, back_long)

      pub back_wrap : 0 < at - 1 → (get_or t (at - 1 - 1) 0 ≡ 10 → ⊥) →
          backspace_back t (position row (at - row_start t row)) ≡ position (row - 1) (at - 1 - 1 - row_start t (row - 1))
      back_wrap p n = back_row ∙ ap (position (row - 1)) (omega (arith, back_long, behind_char (stands_at_lem back_end) p n))
