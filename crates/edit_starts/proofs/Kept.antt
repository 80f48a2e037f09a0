-- The kept starts are the row starts of the new text. On plain lists. Assumes nothing.
use Rattle.lists.proofs.Kit.{◌≡◌, ap, sym, ◌∙◌, List, ◌∷◌, ◌++◌, map, ℕ, ◌+◌, ◌-◌, ◌≤◌, ◌<◌, add-zero, dec_lt, arith, length, get_or, take, drop, length-append}
use Rattle.lists.proofs.Kit.{length-drop, take-append-drop, length-take-le, take_at, drop_at, get_or-take}
use Rattle.text.specs.Text.{row_count}
use Rattle.text.specs.Offsets.{row_start, Stands}
use Rattle.text.proofs.Rows.{rows_pos}
use Rattle.text.proofs.At.{at_start, at_le}
use Rattle.text.proofs.Before.{same_row, rows_apart}
use Rattle.text.proofs.Stands.{first_line, stands_at_lem}
use Rattle.text.proofs.Stretches.{pass_on}
use Rattle.edit_places.specs.Replaced.{replaced}
use Rattle.row_table.specs.Table.{starts_from, row_starts}
use Rattle.row_table.proofs.Starts.{starts_length, starts_append, starts_moved, rows_read, rows_length}
use Rattle.edit_starts.specs.Moved.{moved_start, kept_starts, Moves}
use Rattle.edit_starts.proofs.Moving.{map_size}

-- a text cut at an offset that stands in row r: the starts up to that row, and those behind it
module _ (t : List ℕ) {r start at : ℕ} (s : Stands t r start at) where
  front_size : length (take at t) ≡ at
  front_size = length-take-le at t s.within

  rows_before : row_count (take at t) ≡ r + 1
  rows_before =
      let at_less_zero : at - 0 ≡ at = omega arith in
      let some = rows_pos (take at t) in
      let on = pass_on t (first_line t) (row_count (take at t) - 1) at (omega arith) s.within (rw at_less_zero (omega arith)) in
      let same : 0 + (row_count (take at t) - 1) ≡ r = same_row (stands_at_lem on) (stands_at_lem s) in
      omega arith

  cut_size : length (row_starts (take at t)) ≡ r + 1
  cut_size = rows_length (take at t) ∙ rows_before

  cut : row_starts t ≡ row_starts (take at t) ++ starts_from at (drop at t)
  cut =
      let sum_is : 0 + length (take at t) ≡ at = omega (arith, front_size) in
      ap (λ (l : List ℕ). row_starts l) (sym (take-append-drop at t))
      ∙ ap (λ (l : List ℕ). 0 ∷ l) (starts_append 0 (take at t) (drop at t) ∙ ap (λ (i : ℕ). starts_from 0 (take at t) ++ starts_from i (drop at t)) sum_is)

  pub starts_before : take (r + 1) (row_starts t) ≡ row_starts (take at t)
  starts_before = ap (take (r + 1)) cut ∙ take_at (row_starts (take at t)) (starts_from at (drop at t)) (r + 1) cut_size

  pub starts_behind : drop (r + 1) (row_starts t) ≡ starts_from at (drop at t)
  starts_behind = ap (drop (r + 1)) cut ∙ drop_at (row_starts (take at t)) (starts_from at (drop at t)) (r + 1) cut_size

-- a stretch of the text from a, in row r, up to b, in row q, gives way to c
module _ (t : List ℕ) {r q a b from to : ℕ} (first : Stands t r from a) (second : Stands t q to b) (order : a ≤ b) (c : List ℕ) where
  later_moved : starts_from (a + length c) (drop b t) ≡ map (moved_start (b - a) (length c)) (drop (q + 1) (row_starts t))
  later_moved =
      let moves : (j : ℕ) → moved_start (b - a) (length c) (b + j) ≡ a + length c + j = λ j. omega arith in
      let by_starts_moved = starts_moved (moved_start (b - a) (length c)) b (a + length c) moves 0 (drop b t) in
      rw (add-zero (a + length c), add-zero b, ← starts_behind t second) at by_starts_moved

  pub starts_replaced : kept_starts (row_starts t) r q a b c ≡ row_starts (replaced t a b c)
  unfolding replaced kept_starts
  starts_replaced =
      let size_is : length (take a t) ≡ a = length-take-le a t first.within in
      let sum_is : 0 + length (take a t ++ c) ≡ a + length c = omega (arith, length-append (take a t) c) in
      let a_is : 0 + length (take a t) ≡ a = omega arith in
      let whole : starts_from 0 (take a t ++ c ++ drop b t) ≡ starts_from 0 (take a t) ++ starts_from a c ++ starts_from (a + length c) (drop b t) =
      starts_append 0 (take a t ++ c) (drop b t) ∙ rw (sum_is, starts_append 0 (take a t) c, a_is) in
      sym (ap (λ (l : List ℕ). 0 ∷ l) whole ∙ rw (starts_before t first, ← later_moved))

  rows_ordered : r ≤ q
  rows_ordered = go (dec_lt q r)
    where
      go : Dec (q < r) → r ≤ q
      go (yes h) = absurd (omega (arith, rows_apart t q r h first.in_row, second.in_col, second.begins, first.from, first.begins))
      go (no n) = omega arith

  -- how many rows the new text has
  pub rows_replaced : row_count (replaced t a b c) ≡ row_count t - (q - r) + (row_count c - 1)
  unfolding kept_starts
  rows_replaced =
      let moved_start_lem = moved_start (b - a) (length c) in
      let by_length_take_le = length-take-le (r + 1) (row_starts t) (omega (arith, rows_length t, first.in_row)) in
      let by_map_size = map_size moved_start_lem (drop (q + 1) (row_starts t)) in
      omega (
        arith,
        ap length starts_replaced,
        rows_length (replaced t a b c),
        length-append (take (r + 1) (row_starts t) ++ starts_from a c) (map moved_start_lem (drop (q + 1) (row_starts t))),
        length-append (take (r + 1) (row_starts t)) (starts_from a c),
        starts_length a c,
        length-drop (q + 1) (row_starts t),
        rows_length t,
        second.in_row,
        rows_ordered,
      )

-- the starts behind row q can move
pub starts_move : (t starts : List ℕ) {q to a b n : ℕ} → Stands t q to b → a ≤ b → take (row_count t) starts ≡ row_starts t →
    length t + n ≤ 4294967295 → Moves starts (q + 1) (row_count t) (b - a) n
starts_move t starts {q} {to} {a} {b} {n} s order held small =
    record {
      room = λ i low high.
          let value_is : get_or starts i 0 ≡ row_start t i = sym (get_or-take (row_count t) starts i 0 high) ∙ ap (λ (l : List ℕ). get_or l i 0) held
          ∙ rows_read t i high in
          let far = rows_apart t q i (omega arith) high in
          (omega (arith, s.begins, s.in_col), omega (arith, at_le (at_start t i high)));
    }
