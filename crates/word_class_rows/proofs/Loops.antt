-- The loops over rows by the classes: what is known where each of them stands. Assumes nothing.
use Rattle.lists.proofs.Kit.{◌≡◌, sym, ◌∙◌, List, true, false, ℕ, ◌+◌, ◌-◌, ◌≤◌, ◌<◌, arith, length}
use Rattle.word_places.specs.Places.{is_end}
use Rattle.word_class_rows.specs.Rows.{row_of, rows_of, end_of, start_of, Stands}
use Rattle.word_class_rows.proofs.Counting.{row_first, row_end_next, row_char_next, row_end_prev, row_char_prev, row_there, end_one, start_one}
use Rattle.word_class_rows.proofs.Counting.{start_first}

-- the loop that counts row ends stands at i: n of them from a up to i
pub record Counted (c : List ℕ) (a n i : ℕ) : Type 0 where
  pub few : n ≤ i
  pub rows : row_of c a + n ≡ row_of c i

-- the loop to the end of a row stands at i, in row r, which is that row or one before it
pub record Ahead (c : List ℕ) (row r i : ℕ) : Type 0 where
  pub stands : Stands c (record { row = r; at = i })
  pub not_past : r ≤ row

module _ {c : List ℕ} {row r i : ℕ} (so_far : Ahead c row r i) (h : row < rows_of c) where
  pub ahead_there : i < length c
  ahead_there = row_there c i row so_far.stands.within (omega (arith, so_far.stands.row_is, so_far.not_past)) h

  pub ahead_row : is_end c i ≡ true → (r ≡ row → ⊥) → Ahead c row (r + 1) (i + 1)
  ahead_row e n =
      record {
        stands = record { within = omega (arith, ahead_there); row_is = omega (arith, row_end_next c i ahead_there e, so_far.stands.row_is) };
        not_past = omega (arith, n, so_far.not_past);
      }

  pub ahead_char : is_end c i ≡ false → Ahead c row r (i + 1)
  ahead_char e =
      record {
        stands = record { within = omega (arith, ahead_there); row_is = omega (arith, row_char_next c i ahead_there e, so_far.stands.row_is) };
        not_past = so_far.not_past;
      }

  pub ahead_end : is_end c i ≡ true → r ≡ row → i ≡ end_of c row
  ahead_end e q = end_one c row i ahead_there e (sym so_far.stands.row_is ∙ q)

-- the loop to the start of a row: in that row or one behind it
pub record Behind (c : List ℕ) (row r i : ℕ) : Type 0 where
  pub stands : Stands c (record { row = r; at = i })
  pub not_before : row ≤ r

module _ {c : List ℕ} {row r i : ℕ} (so_far : Behind c row r i) where
  module _ (z : 0 < i) where
    pub behind_row : is_end c (i - 1) ≡ true → (r ≡ row → ⊥) → Behind c row (r - 1) (i - 1)
    behind_row e n =
        record {
          stands =
              record {
                within = omega (arith, so_far.stands.within);
                row_is = omega (arith, row_end_prev c i z so_far.stands.within e, so_far.stands.row_is);
              };
          not_before = omega (arith, n, so_far.not_before);
        }

    pub behind_char : is_end c (i - 1) ≡ false → Behind c row r (i - 1)
    behind_char e =
        record {
          stands =
              record {
                within = omega (arith, so_far.stands.within);
                row_is = omega (arith, row_char_prev c i z so_far.stands.within e, so_far.stands.row_is);
              };
          not_before = so_far.not_before;
        }

    pub behind_start : is_end c (i - 1) ≡ true → r ≡ row → i ≡ start_of c row
    behind_start e q = start_one c row i z so_far.stands.within e (sym so_far.stands.row_is ∙ q)

  -- the text's first place, which is in row 0
  pub behind_first : i ≡ 0 → i ≡ start_of c row
  behind_first e =
      let first : row_of c i ≡ 0 = rw e (row_first c) in
      start_first c row i e (omega (arith, first, so_far.stands.row_is, so_far.not_before))
