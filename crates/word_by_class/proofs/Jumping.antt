-- Out of a closed fold by the classes is out of it in the text. Assumes nothing.
use Rattle.lists.proofs.Kit.{◌≡◌, refl, ap, sym, ◌∙◌, List, Bool, true, false, cond, ◌&&◌, ℕ, zero, suc, ◌+◌, ◌-◌, ◌≤◌, ◌<◌, add-one, arith, length, eqb, Option, Some, None}
use Rattle.lists.proofs.Kit.{eq-eqb, eqb-true, eqb-false, le-ltb}
use Rattle.text.specs.Text.{row_count, row_len, content_rows, position}
use Rattle.text.specs.Offsets
use Rattle.text.specs.Offsets.{row_start}
use Rattle.text.proofs.Rows.{start_zero}
use Rattle.text.proofs.At.{at_start, at_end_lem, at_le, at_col}
use Rattle.text.proofs.Parts.{next_start_lem}
use Rattle.text.proofs.Content.{content_near}
use Rattle.text.proofs.Stands.{row_there, stands_row, at_stands}
use Rattle.folds.specs.Folds.{closed_fold_at}
use Rattle.word_kinds.specs.Places
use Rattle.word_kinds.proofs.Onto.{spot_at, col_at}
use Rattle.word_rounds.specs.Rounds as first
use Rattle.word_rounds.proofs.Folding.{span_within}
use Rattle.word_places.specs.Places.{is_end, is_empty, kind}
use Rattle.word_class_rows.specs.Rows.{row_of, rows_of, content_of, end_of, start_of, last_of}
use Rattle.word_class_rows.proofs.Counting.{end_one}
use Rattle.word_class_laws.specs.Determines.{Determines, pos, named}
use Rattle.word_class_laws.proofs.Points.{named_same, spot_pos}
use Rattle.word_by_class.specs.Rounds.{fold_at, to_last, to_first, jump_fwd, jump_back}

-- a row and a column at an offset are the position of that place
pub at_pos : {t : List ℕ} {r col at : ℕ} → Offsets.At t r col at → pos t at ≡ position r col
at_pos {t} {r} {col} {at} a = sym (spot_pos t (record { row = r; at = at }) (spot_at a)) ∙ col_at a

module _ {t : List ℕ} {tell : ℕ → ℕ} {c : List ℕ} {big : Bool} (d : Determines t tell c big) where
  -- the end of a row, and its first place
  module _ (r : ℕ) (h : r < row_count t) where
    abbrev pub stop : ℕ
    stop = row_start t r + row_len t r

    end_at : Offsets.At t r (row_len t r) stop
    end_at = at_end_lem t r h

    kind_past : Places.kind_at t tell (position r (row_len t r)) ≡ 3
    unfolding Places.kind_at
    kind_past = rw (le-ltb (row_len t r) (row_len t r) (omega arith))

    end_kind : is_end c stop ≡ true
    unfolding named
    end_kind =
        let kind_at_is : Places.kind_at t tell (pos t stop) ≡ 3 = ap (Places.kind_at t tell) (at_pos end_at) ∙ kind_past in
        sym (d.ends stop (at_le end_at)) ∙ sym (named_same (kind c big stop) 4) ∙ eq-eqb _ 3 (sym (d.kinds stop (at_le end_at)) ∙ kind_at_is)

    pub end_place : end_of c r ≡ stop
    end_place = sym (end_one c r stop (omega (arith, at_le end_at, d.long)) end_kind
        (sym (d.row stop (at_le end_at)) ∙ stands_row (at_stands end_at (row_start t r) refl)))

    -- its last character
    last_by : (b : Bool) → is_empty c stop ≡ b → (pos t (cond b stop (stop - 1)) ≡ position r (row_len t r - 1)) × (cond b stop (stop - 1) ≤ length t)
    unfolding Places.on_empty_row
    last_by true e =
        let test_is : (eqb (row_len t r) 0 && eqb (row_len t r) 0) ≡ true = sym (ap (Places.on_empty_row t) (at_pos end_at)) ∙ d.empties stop (at_le end_at) ∙ e in
        let row_len_is : row_len t r ≡ 0 = both (eqb (row_len t r) 0) refl test_is in
        let same : row_len t r - 1 ≡ row_len t r = omega arith in
        (rw same (at_pos end_at), at_le end_at)
      where
        both : (b : Bool) → eqb (row_len t r) 0 ≡ b → (b && b) ≡ true → row_len t r ≡ 0
        both true q w = eqb-true (row_len t r) 0 q
        both false q w = let never : ◌≡◌ {A = ℕ} 0 1 = cc in absurd (omega arith)
    last_by false e =
        let test_is : (eqb (row_len t r) 0 && eqb (row_len t r) 0) ≡ false = sym (ap (Places.on_empty_row t) (at_pos end_at))
        ∙ d.empties stop (at_le end_at) ∙ e in
        let row_len_not : row_len t r ≡ 0 → ⊥ = none (eqb (row_len t r) 0) refl test_is in
        let by_at_col = at_col end_at (row_len t r - 1) (stop - 1) (omega arith) (omega (arith, row_len_not)) in
        (at_pos by_at_col, at_le by_at_col)
      where
        none : (b : Bool) → eqb (row_len t r) 0 ≡ b → (b && b) ≡ false → row_len t r ≡ 0 → ⊥
        none true q w v = let never : ◌≡◌ {A = ℕ} 0 1 = cc in omega arith
        none false q w v = eqb-false (row_len t r) 0 q v

    pub last_place : (pos t (last_of c r) ≡ position r (row_len t r - 1)) × (last_of c r ≤ length t)
    last_place = rw end_place (last_by (is_empty c stop) refl)

  pub start_place : (r : ℕ) → r < row_count t → start_of c r ≡ row_start t r
  start_place zero h = sym (start_zero t)
  start_place (suc r) h =
      let here = rw (add-one r) at (next_start_lem t r (omega arith)) in omega (arith, end_place r (omega arith), here)

  first_place : (r : ℕ) → r < row_count t → (pos t (start_of c r) ≡ position r 0) × (start_of c r ≤ length t)
  first_place r h = rw (start_place r h) (at_pos (at_start t r h), at_le (at_start t r h))

  -- the jumps
  module _ (folds : List ℕ) (i : ℕ) (h : i ≤ length t) where
    same_fold : first.fold_at t folds (pos t i) ≡ fold_at c folds i
    same_fold = ap (λ (x : ℕ). closed_fold_at folds x (content_rows t) (Offsets.row_of t i)) d.rows
        ∙ ap (λ (x : ℕ). closed_fold_at folds (rows_of c) x (Offsets.row_of t i)) d.content_rows ∙ ap (closed_fold_at folds (rows_of c) (content_of c)) (d.row i h)

    rows_of_lem : (a b : ℕ) → fold_at c folds i ≡ Some (a, b) → (a < row_count t) × (b < row_count t)
    rows_of_lem a b e =
        let by_content_near = content_near t in
        span_within folds (row_count t) (content_rows t) (Offsets.row_of t i) a b (same_fold ∙ e) (row_there t i h).in_row (omega arith) (omega arith)

    pub fwd_same : (first.jump_fwd t folds (pos t i) ≡ pos t (jump_fwd c folds i)) × (jump_fwd c folds i ≤ length t)
    fwd_same = rw same_fold (go (fold_at c folds i) refl)
      where
        go : (s : Option (ℕ × ℕ)) → fold_at c folds i ≡ s → (first.to_last t (pos t i) s ≡ pos t (to_last c i s)) × (to_last c i s ≤ length t)
        go (Some (a, b)) e = let by_last_place = last_place b (rows_of_lem a b e).1 in (sym by_last_place.0, by_last_place.1)
        go None e = (refl, h)

    pub back_same : (first.jump_back t folds (pos t i) ≡ pos t (jump_back c folds i)) × (jump_back c folds i ≤ length t)
    back_same = rw same_fold (go (fold_at c folds i) refl)
      where
        go : (s : Option (ℕ × ℕ)) → fold_at c folds i ≡ s → (first.to_first (pos t i) s ≡ pos t (to_first c i s)) × (to_first c i s ≤ length t)
        go (Some (a, b)) e = let by_first_place = first_place a (rows_of_lem a b e).0 in (sym by_first_place.0, by_first_place.1)
        go None e = (refl, h)
