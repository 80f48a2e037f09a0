-- What the reader answers and leaves, by each refusal and by the folds. Assumes nothing.
use Rattle.lists.proofs.Kit.{◌≡◌, ◌∙◌, List, ℕ, ◌+◌, ◌/◌, ◌≤◌, ◌<◌, arith, length, take, sets-eq, take_at, le-leb, lt-leb, ne_eqb}
use Rattle.print.specs.Print.{Wrote}
use Rattle.text_check.specs.Accept.{text_refusal}
use Rattle.text.specs.Text.{row_count}
use Rattle.positions.specs.Positions.{lowest as first_of}
use Rattle.folds.specs.Folds.{fold_refusal}
use Rattle.fold_blocks.specs.Listed.{folds_in}
use Rattle.fold_blocks.specs.Layout.{layout_refusal, room_refusal}
use Rattle.fold_reader.specs.declared.Loaded.TheVariants.{Folds, Refused}
use Rattle.fold_reader.specs.Reading.{read_refusal, loaded, loaded_in, LoadsTo}

-- what was taken stands at the start
pub taken_front : {room out s : List ℕ} {n : ℕ} → Wrote room 0 s n out → length s ≤ length room → take n out ≡ s
taken_front {room} {out} {s} {n} w h =
    let size : length s ≡ n = omega (arith, w.next) in
    rw (w.left, sets-eq s room 0 (omega arith)) (take_at s _ n size)

module _ (t f folds : List ℕ) where
  refused_with : (n : ℕ) → read_refusal t f (length folds) ≡ n → (n ≡ 0 → ⊥) → LoadsTo t f folds (Refused n) folds
  unfolding loaded loaded_in
  refused_with n e z = record { answer = rw (e, ne_eqb n 0 z); left = rw (e, ne_eqb n 0 z) }

  pub read_text_lem : (n : ℕ) → n ≡ text_refusal t → (n ≡ 0 → ⊥) → LoadsTo t f folds (Refused n) folds
  unfolding read_refusal first_of
  read_text_lem n e z = refused_with n (rw (← e, ne_eqb n 0 z)) z

  module _ (good : 0 ≡ text_refusal t) where
    pub read_layout : (n : ℕ) → n ≡ layout_refusal f → (n ≡ 0 → ⊥) → LoadsTo t f folds (Refused n) folds
    unfolding read_refusal first_of
    read_layout n e z = refused_with n (rw (← good, ← e, ne_eqb n 0 z)) z

    module _ (whole : 0 ≡ layout_refusal f) where
      pub read_folds : (n : ℕ) → n ≡ fold_refusal (folds_in f) (row_count t) → (n ≡ 0 → ⊥) → LoadsTo t f folds (Refused n) folds
      unfolding read_refusal first_of
      read_folds n e z = refused_with n (rw (← good, ← whole, ← e, ne_eqb n 0 z)) z

      module _ (taken : 0 ≡ fold_refusal (folds_in f) (row_count t)) where
        pub read_short : length folds < length (folds_in f) → LoadsTo t f folds (Refused 14) folds
        unfolding read_refusal first_of room_refusal
        read_short h = refused_with 14 (rw (← good, ← whole, ← taken, lt-leb (length (folds_in f)) (length folds) h)) (λ z. omega arith)

        none : length (folds_in f) ≤ length folds → read_refusal t f (length folds) ≡ 0
        unfolding read_refusal first_of room_refusal
        none h = rw (← good, ← whole, ← taken, le-leb (length (folds_in f)) (length folds) h)

        pub read_list : (n r : ℕ) (left : List ℕ) → n ≡ length (folds_in f) → length (folds_in f) ≤ length folds → Wrote folds 0 (folds_in f) r left →
            LoadsTo t f folds (Folds (n / 3)) left
        unfolding loaded loaded_in
        read_list n r left e h w =
            let at : 0 + length (folds_in f) ≡ length (folds_in f) = omega arith in
            record { answer = rw (none h, e); left = rw (none h) (w.left ∙ sets-eq (folds_in f) folds 0 (omega arith) ∙ rw at) }
