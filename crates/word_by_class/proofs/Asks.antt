-- What a round and a motion require, for their parts. Assumes nothing.
use Rattle.lists.proofs.Kit.{◌≡◌, refl, ap, sym, ◌∙◌, List, true, false, ℕ, zero, suc, ◌+◌, ◌-◌, ◌≤◌, ◌<◌, arith, length, Option, Some}
use Rattle.folds.specs.Folds.{closed_fold_at}
use Rattle.text.specs.Text.{position}
use Rattle.text.specs.declared.Position.{Position}
use Rattle.text.proofs.Stands.{row_there}
use Rattle.word_kinds.specs.declared.Spot.{Spot}
use Rattle.word_rounds.proofs.Folding.{span_within}
use Rattle.word_kinds.specs.Places
use Rattle.word_rounds.specs.Rounds as first
use Rattle.word_places.specs.Places.{is_end, is_empty}
use Rattle.word_class_rows.specs.Rows.{row_of, rows_of, content_of, end_of, start_of, Stands}
use Rattle.word_class_rows.proofs.Counting.{end_there}
use Rattle.word_class_laws.specs.Determines.{Classes}
use Rattle.word_by_class.specs.Rounds.{fold_at, position_of, Ready, Asked}
use Rattle.word_by_class.proofs.Jumping.{start_place}
use Rattle.word_by_class.proofs.Fits.{first_empty, fold_first, held, row_in, some_rows}

-- what a round requires, for its parts
module _ {c folds : List ℕ} {rows content : ℕ} {p : Spot} (w : Ready c folds rows content p) where
  pub ready_at : (q : Spot) → Stands c q → q.at + 1 ≤ length c → Ready c folds rows content q
  ready_at q s h =
      record { classes = w.classes; good = w.good; all_rows = w.all_rows; content_rows = w.content_rows; stands = s; inside = h }

  pub ready_row : (p.row < rows) × (0 < content) × (content ≤ rows)
  ready_row =
      let by_some_rows = some_rows w.classes in (
        omega (arith, row_in w.classes folds p.at w.inside, w.stands.row_is, w.all_rows),
        omega (arith, by_some_rows.2, w.content_rows),
        omega (arith, by_some_rows.1, w.content_rows, w.all_rows),
      )

  -- the closed fold at the spot's row
  pub span_at : {r : Option (ℕ × ℕ)} → r ≡ closed_fold_at folds rows content p.row → r ≡ fold_at c folds p.at
  span_at e = e ∙ ap (λ (x : ℕ). closed_fold_at folds x content p.row) w.all_rows
      ∙ ap (λ (x : ℕ). closed_fold_at folds (rows_of c) x p.row) w.content_rows ∙ ap (closed_fold_at folds (rows_of c) (content_of c)) w.stands.row_is

  pub span_rows : {r : Option (ℕ × ℕ)} → r ≡ closed_fold_at folds rows content p.row → (a b : ℕ) → r ≡ Some (a, b) → (a ≤ p.row) × (b < rows_of c)
  span_rows e a b q =
      let by_ready_row = ready_row in (
        fold_first folds rows content p.row a b (sym e ∙ q),
        omega (arith, (span_within folds rows content p.row a b (sym e ∙ q) by_ready_row.0 by_ready_row.1 by_ready_row.2).1, w.all_rows),
      )

-- the end of a row that is not empty has a place before it
pub last_there : {c : List ℕ} → Classes c → (r : ℕ) → r < rows_of c → is_empty c (end_of c r) ≡ false → 0 < end_of c r
last_there {c} k r h e = go (end_of c r) refl
  where
    go : (n : ℕ) → end_of c r ≡ n → 0 < end_of c r
    go zero z =
        let is_end_lem : is_end c 0 ≡ true = rw z at (end_there c r h).1 in
        let never : ◌≡◌ {A = ℕ} 0 1 = cc (sym (first_empty k is_end_lem) ∙ rw z at e) in absurd (omega arith)
    go (suc n) z = omega arith

-- a motion from a row and a column
module _ {c folds : List ℕ} {p : Position} (w : Asked c folds p) where
  pub asked_ready : (rows content start : ℕ) → rows ≡ rows_of c → content ≡ content_of c → start ≡ start_of c p.row →
      Ready c folds rows content (record { row = p.row; at = start + p.col })
  asked_ready rows content start r n s =
      record {
        classes = w.classes;
        good = rw r w.good;
        all_rows = r;
        content_rows = n;
        stands = record { within = omega (arith, s, w.inside); row_is = w.row_is ∙ ap (λ (x : ℕ). row_of c (x + p.col)) (sym s) };
        inside = omega (arith, s, w.inside);
      }

-- a row begins at or before each of its places
pub start_low : {c : List ℕ} → Classes c → (i : ℕ) → i + 1 ≤ length c → start_of c (row_of c i) ≤ i
start_low {c} k i h =
    let by_held = held k true in
    let low : i ≤ length k.text = omega (arith, by_held.long) in
    let by_row_there = row_there k.text i low in
    omega (arith, ap (start_of c) (by_held.row i low), start_place by_held _ by_row_there.in_row, by_row_there.offset)

pub position_is : (c : List ℕ) (row s j m : ℕ) → row ≡ row_of c j → s ≡ start_of c row → j ≡ m → position row (j - s) ≡ position_of c m
position_is c row s j m e f g = ap (λ (x : ℕ). position row (j - x)) f ∙ ap (λ (x : ℕ). position x (j - start_of c x)) e ∙ ap (position_of c) g
