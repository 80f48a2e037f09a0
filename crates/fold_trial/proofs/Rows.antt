-- Laws of the rows that are printed: their lengths, the numbers of folds one after another, and that what was written is what is printed.
-- Assumes nothing.
use Rattle.lists.proofs.Kit.{◌≡◌, ap, sym, List, [], ◌∷◌, ◌++◌, append_assoc, ℕ, ◌+◌, ◌*◌, ◌≤◌, ◌<◌, arith, length, get_or, drop, length-append}
use Rattle.lists.proofs.Kit.{drop_of_length-le, length-take-le}
use Rattle.lists.specs.Codes.{codes}
use Rattle.lists.proofs.Lists.{drop_at}
use Rattle.print.specs.Print.{Wrote, decimal}
use Rattle.print.proofs.Laws.{length_decimal}
use Rattle.fold_reader.proofs.Answers.{taken_front}
use Rattle.fold_trial.specs.Runs.{unread, refusal_row, spaced, fold_row, Prints}

-- each number behind a space
module _ (l : List ℕ) (i : ℕ) where
  pub spaced_at : i < length l → spaced (drop i l) ++ (10 ∷ []) ≡ (32 ∷ decimal (get_or l i 0)) ++ (spaced (drop (i + 1) l) ++ (10 ∷ []))
  unfolding spaced
  spaced_at h = rw (drop_at l i h) (ap (λ (s : List ℕ). 32 ∷ s) (append_assoc (decimal (get_or l i 0)) (spaced (drop (i + 1) l)) (10 ∷ [])))

  pub spaced_end : length l ≤ i → spaced (drop i l) ++ (10 ∷ []) ≡ 10 ∷ []
  unfolding spaced
  spaced_end h = rw (drop_of_length-le l h)

-- there is room for each of them
length_spaced : (l : List ℕ) → length (spaced l) ≤ 11 * length l
unfolding spaced
length_spaced [] = omega arith
length_spaced (x ∷ l) = omega (arith, length-append (decimal x) (spaced l), length_decimal x, length_spaced l)

pub fold_row_fits : (l : List ℕ) → length l ≤ 768 → length (fold_row l) ≤ 8450
unfolding fold_row
fold_row_fits l h = omega (arith, length-append (spaced l) (10 ∷ []), length_spaced l)

pub fold_row_length : (l : List ℕ) → length (fold_row l) ≡ 1 + length (spaced l ++ (10 ∷ []))
unfolding fold_row
fold_row_length l = omega arith

pub refusal_row_fits : (f : ℕ) → length (refusal_row f) ≤ 8450
unfolding refusal_row
refusal_row_fits f = omega (arith, length-append (decimal f) (10 ∷ []), length_decimal f)

pub unread_fits : length unread ≤ 8450
unfolding unread codes
unread_fits = omega arith

-- what was written is what is printed
pub prints : {out s out' : List ℕ} {r : ℕ} → length s ≤ 8450 → length out ≡ 8450 → Wrote out 0 s r out' → Prints s r out'
prints {out} {s} {out'} {r} h e w =
    let r_at_most : r ≤ length out' = omega (arith, w.size, w.next) in
    record { front = taken_front w (omega arith); within = r_at_most; counts = sym (length-take-le r out' r_at_most) }
