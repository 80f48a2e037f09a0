-- Out of a closed fold: its rows are rows of the text, and the places of a row by its line.
-- Assumes nothing.
use Rattle.lists.proofs.Kit.{◌≡◌, refl, ap, sym, ◌∙◌, List, Bool, true, false, cond, ℕ, ◌+◌, ◌-◌, ◌≤◌, ◌<◌, arith, length, Option, Some, None}
use Rattle.text.specs.Text.{row_count, row_len, position}
use Rattle.text.specs.Offsets.{row_start, line_at}
use Rattle.folds.proofs.Spans.{same_first, same_last}
use Rattle.folds.specs.Folds.{fold_refusal, hidden, prev_visible, next_visible, last_before, closed_from, closed_fold_at}
use Rattle.text.specs.declared.Line.{Line}
use Rattle.text.specs.declared.Position.{Position}
use Rattle.text.proofs.Content.{content_near}
use Rattle.text.proofs.At.{at_start, at_col}
use Rattle.text.proofs.Parts.{row_fits}
use Rattle.folds.proofs.Past.{visible_within, prev_within}
use Rattle.word_kinds.specs.declared.Spot.{Spot}
use Rattle.word_rounds.specs.Rounds.{fold_at}
use Rattle.word_kinds.specs.Spots.{place_of, Lands}
use Rattle.word_rounds.specs.Turns.{Folded}
use Rattle.word_kinds.proofs.Onto.{lands_at}
use Rattle.word_kinds.proofs.Telling.{tells_too}

-- the last row of a fold lies within the rows
last_within : (folds : List ℕ) (rows content first : ℕ) → first < rows → 0 < content → content ≤ rows → last_before content (next_visible folds rows first) < rows
last_within folds rows content first h z l = go (next_visible folds rows first) refl
  where
    go : (v : Option ℕ) → next_visible folds rows first ≡ v → last_before content v < rows
    go (Some next) e = omega (arith, visible_within folds (first + 1) (rows - (first + 1)) next e)
    go None e = omega arith

-- and so does its first
pub span_within : (folds : List ℕ) (rows content row a b : ℕ) → closed_fold_at folds rows content row ≡ Some (a, b) → row < rows → 0 < content → content ≤ rows →
    (a < rows) × (b < rows)
span_within folds rows content row a b e h z l = go (hidden folds row) refl
  where
    from : (v : Option ℕ) → ((x : ℕ) → v ≡ Some x → x < rows) → closed_from folds rows content v ≡ Some (a, b) → (a < rows) × (b < rows)
    from None f w = let never : ◌≡◌ {A = ℕ} 0 1 = cc in absurd (omega arith)
    from (Some first) f w = pick (hidden folds (first + 1)) w
      where
        pick : (s : Bool) → cond {A = Option (ℕ × ℕ)} s (Some (first, last_before content (next_visible folds rows first))) None ≡ Some (a, b) → (a < rows) × (b < rows)
        pick true v =
            let first_is : first ≡ a = same_first v in
            let last_before_is : last_before content (next_visible folds rows first) ≡ b = same_last v in
            (rw first_is at (f first refl), rw last_before_is at (last_within folds rows content first (f first refl) z l))
        pick false v = let never : ◌≡◌ {A = ℕ} 0 1 = cc in absurd (omega arith)

    go : (s : Bool) → hidden folds row ≡ s → (a < rows) × (b < rows)
    go true s = from (prev_visible folds row) (λ x v. omega (arith, prev_within folds row x v)) (rw s at e)
    go false s = from (Some row) (λ x v. let row_is : row ≡ x = cc in omega arith) (rw s at e)

-- a place of a row by its line
module _ (t : List ℕ) (row : ℕ) (h : row < row_count t) (l : Line) (e : l ≡ line_at t row) where
  begins : l.start ≡ row_start t row
  begins = ap (λ (x : Line). x.start) e

  pub row_place : (c at : ℕ) → c ≤ row_len t row → at ≡ l.start + c → Lands t (record { row = row; at = at }) (position row c)
  row_place c at k w = lands_at (at_col (at_start t row h) c at k (omega (arith, begins)))

  pub line_length : {n : ℕ} → n ≡ row_len t l.row → n ≡ row_len t row
  line_length w = w ∙ ap (λ (x : Line). row_len t x.row) e

  pub line_fits : l.start + row_len t row ≤ length t
  line_fits = omega (arith, begins, row_fits t row h)

-- a jump out of the fold at a spot, by the answer of `closed_fold_at`: what the call requires, the rows of its answer, and the place where the jump leads,
-- whichever place of a fold that is
module _ {t folds : List ℕ} {rows content : ℕ} {p : Spot} (w : Folded t folds rows content p) where
  pub fold_asked : (fold_refusal folds rows ≡ 0) × (p.row < rows) × (0 < content)
  fold_asked = (w.good, omega (arith, w.all_rows, w.spot.in_row), omega (arith, w.content_rows, content_near t))

module _ {t folds : List ℕ} {rows content : ℕ} {p : Spot} (w : Folded t folds rows content p) {r : Option (ℕ × ℕ)}
    (s : r ≡ closed_fold_at folds rows content p.row) where
  pub span_rows : {a b : ℕ} → r ≡ Some (a, b) → (a < row_count t) × (b < row_count t)
  span_rows {a} {b} e =
      let by_content_near = content_near t in
      rw w.all_rows at
      (span_within folds rows content p.row a b (sym s ∙ e) (omega (arith, w.all_rows, w.spot.in_row)) (omega (arith, w.content_rows))
      (omega (arith, w.content_rows, w.all_rows)))

  fold_there : r ≡ fold_at t folds (place_of t p)
  fold_there = s ∙ ap (λ (x : ℕ). closed_fold_at folds x content p.row) w.all_rows ∙
      ap (λ (x : ℕ). closed_fold_at folds (row_count t) x p.row) w.content_rows

  pub jump_lands : (to : Option (ℕ × ℕ) → Position) {v : Option (ℕ × ℕ)} {q : Spot} → r ≡ v → Lands t q (to v) → Lands t q (to (fold_at t folds (place_of t p)))
  jump_lands to e lands = tells_too lands (ap to (sym e ∙ fold_there))
