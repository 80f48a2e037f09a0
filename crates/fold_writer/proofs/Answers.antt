-- What the writer answers and leaves, by each refusal and by the file. Assumes nothing.
use Rattle.lists.proofs.Kit.{◌≡◌, refl, ◌∙◌, List, Bool, true, false, cond, not, ◌||◌, ℕ, ◌+◌, ◌/◌, ◌%◌, ◌≤◌, ◌<◌, arith, length, sets-eq, eqb, ltb, le-leb}
use Rattle.lists.proofs.Kit.{lt-leb, ne_eqb, eqb-true, ltb-false}
use Rattle.print.specs.Print.{Wrote}
use Rattle.text_check.specs.Accept.{text_refusal}
use Rattle.text.specs.Text.{row_count}
use Rattle.positions.specs.Positions.{lowest as first_of}
use Rattle.folds.specs.Folds.{fold_refusal, any_fold, bad_fold}
use Rattle.fold_blocks.specs.Files.{file_of}
use Rattle.fold_blocks.specs.Layout.{room_refusal}
use Rattle.fold_writer.specs.declared.Written.TheVariants.{Bytes, Refused}
use Rattle.fold_writer.specs.Writing.{write_refusal, written, written_in, WritesTo}

-- folds that are taken are at most 256, three numbers each
folds_taken : (folds : List ℕ) (rows : ℕ) → fold_refusal folds rows ≡ 0 → (length folds % 3 ≡ 0) × (length folds / 3 ≤ 256)
unfolding fold_refusal
folds_taken folds rows e = go (eqb (length folds % 3) 0) (ltb 256 (length folds / 3)) (any_fold (bad_fold rows) folds) refl refl e
  where
    go : (a b d : Bool) → eqb (length folds % 3) 0 ≡ a → ltb 256 (length folds / 3) ≡ b → ◌≡◌ {A = ℕ} (cond (not a || (b || d)) 5 0) 0 →
        (length folds % 3 ≡ 0) × (length folds / 3 ≤ 256)
    go false b d p q h = absurd (omega arith)
    go true true d p q h = absurd (omega arith)
    go true false d p q h = (eqb-true _ _ p, ltb-false _ _ q)

pub folds_few : (folds : List ℕ) (rows : ℕ) → fold_refusal folds rows ≡ 0 → length folds / 3 ≤ 256
folds_few folds rows e = (folds_taken folds rows e).1

pub folds_whole : (folds : List ℕ) (rows : ℕ) → fold_refusal folds rows ≡ 0 → length folds % 3 ≡ 0
folds_whole folds rows e = (folds_taken folds rows e).0

module _ (t folds file : List ℕ) where
  refused_with : (f : ℕ) → write_refusal t folds (length file) ≡ f → (f ≡ 0 → ⊥) → WritesTo t folds file (Refused f) file
  unfolding written written_in
  refused_with f e n = record { answer = rw (e, ne_eqb f 0 n); left = rw (e, ne_eqb f 0 n) }

  pub write_text : (f : ℕ) → f ≡ text_refusal t → (f ≡ 0 → ⊥) → WritesTo t folds file (Refused f) file
  unfolding write_refusal first_of
  write_text f e n = refused_with f (rw (← e, ne_eqb f 0 n)) n

  module _ (good : 0 ≡ text_refusal t) where
    pub write_folds : (f : ℕ) → f ≡ fold_refusal folds (row_count t) → (f ≡ 0 → ⊥) → WritesTo t folds file (Refused f) file
    unfolding write_refusal first_of
    write_folds f e n = refused_with f (rw (← good, ← e, ne_eqb f 0 n)) n

    module _ (taken : 0 ≡ fold_refusal folds (row_count t)) where
      pub write_short : length file < length (file_of folds) → WritesTo t folds file (Refused 14) file
      unfolding write_refusal first_of room_refusal
      write_short h = refused_with 14 (rw (← good, ← taken, lt-leb (length (file_of folds)) (length file) h)) (λ z. omega arith)

      none : length (file_of folds) ≤ length file → write_refusal t folds (length file) ≡ 0
      unfolding write_refusal first_of room_refusal
      none h = rw (← good, ← taken, le-leb (length (file_of folds)) (length file) h)

      pub write_file : (n r : ℕ) (left : List ℕ) → n ≡ length (file_of folds) → length (file_of folds) ≤ length file → Wrote file 0 (file_of folds) r left →
          WritesTo t folds file (Bytes n) left
      unfolding written written_in
      write_file n r left e h w =
          let at : 0 + length (file_of folds) ≡ length (file_of folds) = omega arith in
          record { answer = rw (none h, e); left = rw (none h) (w.left ∙ sets-eq (file_of folds) file 0 (omega arith) ∙ rw at) }
