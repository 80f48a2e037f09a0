-- Counts of `j` and `k` add, over any width function: so many rows and then so many more, with the sticky column that the first move left, are as many as
-- both. Assumes nothing.
use Rattle.lists.proofs.Kit.{◌≡◌, refl, ap, sym, ◌∙◌, List, Bool, ℕ, ◌+◌, ◌<◌, ℕ_discrete, eq-eqb, ne_eqb, Option, Some}
use Rattle.text.specs.Text.{row_count}
use Rattle.visible_rows.specs.Visible.{vertical_row, delta_of}
use Rattle.visible_rows.proofs.Adding.{rows_add, back_none}
use Rattle.vertical.specs.Moves.{wanted_col, landed, move_vertical}

-- landing twice is landing once, where the second does not lead back
landed_twice : (w : ℕ → ℕ) (t : List ℕ) (tabstop want row col a b : ℕ) → (b ≡ row → a ≡ row) →
    landed w t tabstop want a (landed w t tabstop want row col a).col b ≡ landed w t tabstop want row col b
unfolding landed
landed_twice w t tabstop want row col a b back = go (ℕ_discrete b a)
  where
    go : Dec (b ≡ a) → landed w t tabstop want a (landed w t tabstop want row col a).col b ≡ landed w t tabstop want row col b
    go (yes e) = rw (e, eq-eqb a a refl)
    go (no n) = rw (ne_eqb b a n, ne_eqb b row (λ e. n (e ∙ sym (back e))))

pub vertical_adds : (w : ℕ → ℕ) (t folds : List ℕ) (tabstop : ℕ) (down : Bool) (m n row col : ℕ) (sticky : Option ℕ) → 0 < m → 0 < n →
    let move_vertical_lem = move_vertical w t folds tabstop (delta_of down m) row col sticky in
    move_vertical w t folds tabstop (delta_of down n) move_vertical_lem.row move_vertical_lem.col
    (Some move_vertical_lem.want) ≡ move_vertical w t folds tabstop (delta_of down (m + n)) row col sticky
unfolding landed
vertical_adds w t folds tabstop down m n row col sticky h k =
    let want = wanted_col w t tabstop row col sticky in
    let first = vertical_row folds (row_count t) (delta_of down m) row in
    let second = vertical_row folds (row_count t) (delta_of down n) first in
    landed_twice w t tabstop want row col first second (back_none folds (row_count t) down m n row h k)
    ∙ ap (landed w t tabstop want row col) (sym (rows_add folds (row_count t) down m n row h k))
