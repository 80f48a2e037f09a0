-- What the code of a round leans on: the slice holds classes, so that every jump and round stays in it. Assumes nothing.
use Rattle.lists.proofs.Kit.{◌≡◌, refl, sym, subst, ◌∙◌, List, [], ◌∷◌, Bool, true, false, cond, ℕ, ◌+◌, ◌≤◌, ◌<◌, arith, length, eqb, leb, Option, Some, None}
use Rattle.folds.proofs.Spans.{same_first}
use Rattle.folds.specs.Folds.{hidden, prev_visible, next_visible, last_before, closed_from, closed_fold_at}
use Rattle.folds.proofs.Past.{prev_within}
use Rattle.text.proofs.Content.{content_near}
use Rattle.text.proofs.Stands.{row_there}
use Rattle.word_kinds.specs.Places
use Rattle.word_rounds.specs.Rounds as first
use Rattle.word_rounds.specs.declared.Motion.{Motion}
use Rattle.word_classes.specs.Classes.{end_class, char_class, class_of, classes_from, classes_of}
use Rattle.word_places.specs.Places.{is_end, is_empty}
use Rattle.word_class_rows.specs.Rows.{row_of, rows_of, content_of}
use Rattle.word_class_laws.specs.Determines.{Classes, Determines}
use Rattle.word_class_laws.proofs.Points.{char_says}
use Rattle.word_class_laws.proofs.Law.{determined}
use Rattle.word_ends.specs.declared.Turn.{Turn}
use Rattle.word_ends.specs.declared.Turn.TheVariants.{On, Off}
use Rattle.word_by_class.specs.Rounds.{jump_fwd, jump_back, round_of, motion}
use Rattle.word_by_class.proofs.Jumping.{fwd_same, back_same}
use Rattle.word_by_class.proofs.Same.{Turns, round_same, motion_same}

-- a row's end at the first place is that of an empty row
first_of : (word : ℕ → Bool) (t : List ℕ) → is_end (classes_of word t) 0 ≡ true → is_empty (classes_of word t) 0 ≡ true
unfolding classes_from class_of end_class
first_of word [] e = refl
first_of word (x ∷ t) e = go (eqb x 10) e
  where
    go : (b : Bool) → leb 3 (cond b 3 (char_class word x)) ≡ true → eqb (cond b 3 (char_class word x)) 3 ≡ true
    go true w = refl
    go false w = let never : ◌≡◌ {A = ℕ} 0 1 = cc (sym w ∙ (char_says word true x).1) in absurd (omega arith)

-- the first row of a closed fold is not behind the row that it is at
pub fold_first : (folds : List ℕ) (rows content row a b : ℕ) → closed_fold_at folds rows content row ≡ Some (a, b) → a ≤ row
fold_first folds rows content row a b e = go (hidden folds row) refl
  where
    from : (v : Option ℕ) → ((x : ℕ) → v ≡ Some x → x ≤ row) → closed_from folds rows content v ≡ Some (a, b) → a ≤ row
    from None f w = let never : ◌≡◌ {A = ℕ} 0 1 = cc in absurd (omega arith)
    from (Some x) f w = pick (hidden folds (x + 1)) w
      where
        pick : (s : Bool) → cond {A = Option (ℕ × ℕ)} s (Some (x, last_before content (next_visible folds rows x))) None ≡ Some (a, b) → a ≤ row
        pick true v = let x_is : x ≡ a = same_first v in rw x_is at (f x refl)
        pick false v = let never : ◌≡◌ {A = ℕ} 0 1 = cc in absurd (omega arith)

    go : (s : Bool) → hidden folds row ≡ s → a ≤ row
    go true s = from (prev_visible folds row) (λ x v. omega (arith, prev_within folds row x v)) (rw s at e)
    go false s = from (Some row) (λ x v. let row_is : row ≡ x = cc in omega arith) (rw s at e)

module _ {c : List ℕ} (k : Classes c) where
  -- the one law, of a slice that holds classes
  pub held : (big : Bool) → Determines k.text (Places.kind_of k.word big) c big
  held big = subst (λ (x : List ℕ). Determines k.text (Places.kind_of k.word big) x big) (sym k.same) (determined k.word k.text big)

  pub first_empty : is_end c 0 ≡ true → is_empty c 0 ≡ true
  first_empty e = rw k.same (first_of k.word k.text (rw k.same at e))

  pub some_rows : (0 < rows_of c) × (content_of c ≤ rows_of c) × (0 < content_of c)
  some_rows = let by_held = held true in let by_content_near = content_near k.text in
      (omega (arith, by_held.rows), omega (arith, by_held.rows, by_held.content_rows), omega (arith, by_held.content_rows))

  module _ (folds : List ℕ) (i : ℕ) (h : i + 1 ≤ length c) where
    in_text_lem : i ≤ length k.text
    in_text_lem = omega (arith, (held true).long)

    pub fwd_in : jump_fwd c folds i < length c
    fwd_in = omega (arith, (fwd_same (held true) folds i in_text_lem).1, (held true).long)

    pub back_in : jump_back c folds i ≤ length c
    back_in = omega (arith, (back_same (held true) folds i in_text_lem).1, (held true).long)

    module _ (big : Bool) (m : Motion) (stop : Bool) (j : ℕ) where
      turn_in : (r : Turn ℕ) (v : first.Turn) → Turns k.text r v → r ≡ On j → j + 1 ≤ length c
      turn_in (On x) v w e = let x_is : x ≡ j = cc in omega (arith, w.1, (held true).long)
      turn_in (Off x) v w e = let never : ◌≡◌ {A = ℕ} 0 1 = cc in absurd (omega arith)

      pub on_in : round_of c folds big m stop i ≡ On j → j + 1 ≤ length c
      on_in e = turn_in (round_of c folds big m stop i) _ (round_same (held big) folds m stop i in_text_lem) e

    pub motion_in : (big : Bool) (m : Motion) (stop : Bool) (count : ℕ) → motion c folds big m stop count i + 1 ≤ length c
    motion_in big m stop count = omega (arith, (motion_same (held big) folds m stop count i in_text_lem).1, (held true).long)

    pub row_in : row_of c i < rows_of c
    row_in = omega (arith, (row_there k.text i in_text_lem).in_row, (held true).row i in_text_lem, (held true).rows)
