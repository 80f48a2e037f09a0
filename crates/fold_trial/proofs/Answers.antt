-- What is printed, by the answers of the writer and of the reader. Assumes nothing.
use Rattle.lists.proofs.Kit.{◌≡◌, refl, ap, sym, ◌∙◌, List, ◌++◌, Bool, true, false, cond, ℕ, ◌*◌, ◌/◌, ◌≤◌, arith, length, take, drop, length-append, take_at}
use Rattle.lists.proofs.Kit.{length-take-le, eqb}
use Rattle.text.specs.Text.{row_count}
use Rattle.fold_blocks.specs.Files.{file_of}
use Rattle.fold_blocks.specs.Listed.{folds_in}
use Rattle.fold_writer.specs.declared.Written.TheVariants.{Bytes, Refused}
use Rattle.fold_writer.specs.Writing.{write_refusal, written, written_in}
use Rattle.fold_writer.proofs.Answers.{folds_whole}
use Rattle.fold_reader.specs.declared.Loaded.TheVariants.{Folds, Refused as Loaded-as-Refused}
use Rattle.fold_reader.specs.Reading.{read_refusal, loaded, loaded_in}
use Rattle.fold_laws.proofs.Accepted.{loaded_accepted}
use Rattle.fold_trial.specs.Runs.{refusal_row, fold_row, by_written, file_shown, by_loaded, folds_shown, Prints}

-- the writer, into the room that is printed from
module _ (t folds out : List ℕ) (size : length out ≡ 8450) where
  pub stored_bytes : (n : ℕ) (out' : List ℕ) → written t folds (length out) ≡ Bytes n → out' ≡ written_in t folds out → Prints (file_shown t folds) n out'
  unfolding written written_in by_written
  stored_bytes n out' e l = go (eqb (write_refusal t folds (length out)) 0) refl e l
    where
      go : (b : Bool) → eqb (write_refusal t folds (length out)) 0 ≡ b →
          cond b (Bytes (length (file_of folds))) (Refused (write_refusal t folds (length out))) ≡ Bytes n →
          out' ≡ cond b (file_of folds ++ drop (length (file_of folds)) out) out → Prints (file_shown t folds) n out'
      go true p f k =
          let size_is : length (file_of folds) ≡ n = cc in
          let n_at_most : n ≤ length out' = omega (arith, ap length k, length-append (file_of folds) (drop (length (file_of folds)) out)) in
          let front : take n out' ≡ file_of folds = ap (take n) k ∙ take_at (file_of folds) (drop (length (file_of folds)) out) n size_is in
          record { front = front ∙ rw (← size, p); within = n_at_most; counts = sym (length-take-le n out' n_at_most) }
      go false p f k = let never : ◌≡◌ {A = ℕ} 0 1 = cc in absurd (omega arith)

  pub stored_kept : (f : ℕ) → written t folds (length out) ≡ Refused f → written_in t folds out ≡ out
  unfolding written written_in
  stored_kept f e = go (eqb (write_refusal t folds (length out)) 0) e
    where
      go : (b : Bool) → cond b (Bytes (length (file_of folds))) (Refused (write_refusal t folds (length out))) ≡ Refused f →
          cond b (file_of folds ++ drop (length (file_of folds)) out) out ≡ out
      go true q = let never : ◌≡◌ {A = ℕ} 0 1 = cc in absurd (omega arith)
      go false q = refl

  pub stored_refused : (f : ℕ) → written t folds (length out) ≡ Refused f → file_shown t folds ≡ refusal_row f
  unfolding by_written
  stored_refused f e = rw (← size, e)

-- the reader, into room for 256 folds
module _ (t f folds : List ℕ) (size : length folds ≡ 768) where
  pub loaded_front : (n : ℕ) (folds' : List ℕ) → loaded t f (length folds) ≡ Folds n → folds' ≡ loaded_in t f folds → take (3 * n) folds' ≡ folds_in f
  unfolding loaded loaded_in
  loaded_front n folds' e l =
      let by_loaded_accepted = loaded_accepted t f (length folds) n e in
      let size_is : length (folds_in f) ≡ 3 * n = omega (arith, by_loaded_accepted.size, folds_whole (folds_in f) (row_count t) by_loaded_accepted.taken) in
      go (eqb (read_refusal t f (length folds)) 0) e l size_is
    where
      go : (b : Bool) → cond b (Folds (length (folds_in f) / 3)) (Loaded-as-Refused (read_refusal t f (length folds))) ≡ Folds n →
          folds' ≡ cond b (folds_in f ++ drop (length (folds_in f)) folds) folds → length (folds_in f) ≡ 3 * n → take (3 * n) folds' ≡ folds_in f
      go true q k m = ap (take (3 * n)) k ∙ take_at (folds_in f) (drop (length (folds_in f)) folds) (3 * n) m
      go false q k m = let never : ◌≡◌ {A = ℕ} 0 1 = cc in absurd (omega arith)

  -- that many numbers are shown
  pub loaded_counts : (n : ℕ) (folds' : List ℕ) → loaded t f (length folds) ≡ Folds n → folds' ≡ loaded_in t f folds → 3 * n ≡ length (take (3 * n) folds')
  loaded_counts n folds' e l =
      let by_loaded_accepted = loaded_accepted t f (length folds) n e in
      omega (arith, ap length (loaded_front n folds' e l), by_loaded_accepted.size, folds_whole (folds_in f) (row_count t) by_loaded_accepted.taken)

  pub loaded_few : (n : ℕ) → loaded t f (length folds) ≡ Folds n → 3 * n ≤ 768
  loaded_few n e = let by_loaded_accepted = loaded_accepted t f (length folds) n e in omega (arith, by_loaded_accepted.size, by_loaded_accepted.fits)

  pub loaded_within : (n : ℕ) → loaded t f (length folds) ≡ Folds n → length (folds_in f) ≤ 768
  loaded_within n e = let by_loaded_accepted = loaded_accepted t f (length folds) n e in omega (arith, by_loaded_accepted.fits)

  pub loaded_shown : (n : ℕ) → loaded t f (length folds) ≡ Folds n → folds_shown t f ≡ fold_row (folds_in f)
  unfolding by_loaded
  loaded_shown n e = rw (← size, e)

  pub loaded_refused : (n : ℕ) → loaded t f (length folds) ≡ Loaded-as-Refused n → folds_shown t f ≡ refusal_row n
  unfolding by_loaded
  loaded_refused n e = rw (← size, e)
