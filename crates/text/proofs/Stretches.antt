-- A stretch of the text that is passed over: the rows go on by the separators that it has.
-- Assumes nothing.
use Rattle.lists.proofs.Kit.{◌≡◌, refl, ap, ◌∙◌, List, ◌∷◌, ℕ, zero, suc, ◌+◌, ◌-◌, ◌≤◌, add-zero, ℕ_discrete, arith, length, get_or, take, drop}
use Rattle.lists.proofs.Lists.{drop_at}
use Rattle.text.specs.Text.{row_count}
use Rattle.text.specs.Offsets.{row_start, Stands, row_of}
use Rattle.text.proofs.Rows.{rows_nil, rows_pos}
use Rattle.text.proofs.Parts.{count_cons_nl, count_cons_on}
use Rattle.text.proofs.At.{on_last}
use Rattle.text.proofs.Before.{same_row}
use Rattle.text.proofs.Stands.{stands_at_lem, at_stands, row_there, step_char, step_nl}

-- k code points on, the row is as many rows further down as there are separators among them
passes : (t : List ℕ) (k row start at s : ℕ) → Stands t row start at → at + k ≤ length t → s + 1 ≡ row_count (take k (drop at t)) →
    Stands t (row + s) (row_start t (row + s)) (at + k)
passes t zero row start at s w h e =
    let none : s ≡ 0 = omega (arith, ap length rows_nil) in
    rw (none, add-zero row, add-zero at) (at_stands (stands_at_lem w) (row_start t row) refl)
passes t (suc k) row start at s w h e = go (ℕ_discrete (get_or t at 0) 10) (λ r b n v l c. passes t k r b (at + 1) n v l c)
  where
    split : take (suc k) (drop at t) ≡ get_or t at 0 ∷ take k (drop (at + 1) t)
    split = ap (take (suc k)) (drop_at t at (omega arith))

    place : (r : ℕ) → r ≡ row + s → Stands t r (row_start t r) (at + 1 + k) → Stands t (row + s) (row_start t (row + s)) (at + suc k)
    place r q v =
        let same : at + 1 + k ≡ at + suc k = omega arith in
        rw (← q, ← same) v

    go : Dec (get_or t at 0 ≡ 10) → ((r b n : ℕ) → Stands t r b (at + 1) → at + 1 + k ≤ length t → n + 1 ≡ row_count (take k (drop (at + 1) t)) →
        Stands t (r + n) (row_start t (r + n)) (at + 1 + k)) →
        Stands t (row + s) (row_start t (row + s)) (at + suc k)
    go (yes n) ih =
        let s_plus_one : s + 1 ≡ suc (row_count (take k (drop (at + 1) t))) = e ∙ ap row_count split ∙ count_cons_nl (get_or t at 0) (take k (drop (at + 1) t)) n in
        let by_rows_pos = rows_pos (take k (drop (at + 1) t)) in
        place (row + 1 + (s - 1)) (omega arith) (ih (row + 1) (at + 1) (s - 1) (step_nl w (omega arith) n) (omega arith) (omega arith))
    go (no n) ih = place (row + s) refl
        (ih row start s (step_char w (omega arith) n) (omega arith) (e ∙ ap row_count split ∙ count_cons_on (get_or t at 0) (take k (drop (at + 1) t)) n))

-- from one offset on to another, and back
module _ (t : List ℕ) {row start at : ℕ} (w : Stands t row start at) (s : ℕ) where
  pub pass_on : (end : ℕ) → at ≤ end → end ≤ length t → s + 1 ≡ row_count (take (end - at) (drop at t)) → Stands t (row + s) (row_start t (row + s)) end
  pass_on end h l e =
      let there : at + (end - at) ≡ end = omega arith in
      rw there at (passes t (end - at) row start at s w (omega arith) e)

  pub pass_back : (b : ℕ) → b ≤ at → s + 1 ≡ row_count (take (at - b) (drop b t)) → (s ≤ row) × Stands t (row - s) (row_start t (row - s)) b
  pass_back b h e =
      let r = row_of t b in
      let back = at_stands (row_there t b (omega (arith, w.within))) (row_start t r) refl in
      let there : b + (at - b) ≡ at = omega arith in
      let on = rw there at (passes t (at - b) r (row_start t r) b s back (omega (arith, w.within)) e) in
      let same : r + s ≡ row = same_row (stands_at_lem on) (stands_at_lem w) in
      let up : r ≡ row - s = omega arith in
      (omega arith, rw up at back)

-- the rows above an offset, and those from it on
pub pass_all : (t : List ℕ) {row start at : ℕ} → Stands t row start at → (n : ℕ) → n ≡ row_count (take (length t - at) (drop at t)) → row + n ≡ row_count t
pass_all t {at = at} w n e =
    let some = rows_pos (take (length t - at) (drop at t)) in
    let at_end_lem = pass_on t w (n - 1) (length t) w.within (omega arith) (omega arith) in
    omega (arith, on_last (stands_at_lem at_end_lem) (omega arith))

-- what is left to go up shrinks by the rows passed
pub left_over : (r left s : ℕ) → s ≤ r → s ≤ left → r - s - (left - s) ≡ r - left
left_over r left s h l = omega arith
