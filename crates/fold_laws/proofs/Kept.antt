-- Folds on disk, over the answers of the two calls: written and read again, read and written again, one byte changed; and that the rules of 20 hold
-- exactly of the file of the folds listed. Assumes nothing.
use Rattle.lists.proofs.Kit.{◌≡◌, ap, sym, ◌∙◌, List, ◌++◌, false, ℕ, zero, suc, ◌*◌, ◌≤◌, ◌<◌, arith, length, take, drop, get_or, set, take_at, le-leb}
use Rattle.lists.specs.Lists.{any}
use Rattle.text_check.specs.Accept.{text_refusal}
use Rattle.text.specs.Text.{row_count}
use Rattle.folds.specs.Folds.{fold_refusal}
use Rattle.fold_blocks.specs.Files.{count_in, file_of, blocks_for}
use Rattle.fold_blocks.specs.Listed.{folds_in, blocks_of}
use Rattle.positions.specs.Positions.{lowest as first_of}
use Rattle.fold_blocks.specs.Layout.{is_uncut, is_torn, is_broken, layout_refusal, room_refusal}
use Rattle.fold_blocks.proofs.Files.{length_file, blocks_some}
use Rattle.fold_blocks.proofs.Whole.{layout_whole, uncut_false}
use Rattle.fold_writer.specs.declared.Written.TheVariants.{Bytes}
use Rattle.fold_writer.specs.Writing.{write_refusal, written, written_in}
use Rattle.fold_writer.proofs.Answers.{folds_few}
use Rattle.fold_reader.specs.declared.Loaded.TheVariants.{Folds, Refused}
use Rattle.fold_reader.specs.Reading.{read_refusal, loaded, loaded_in}
use Rattle.fold_laws.proofs.Numbers.{Bytes as AllBytes}
use Rattle.fold_laws.proofs.FileWritten.{file_taken, file_listed}
use Rattle.fold_laws.proofs.Read.{file_back}
use Rattle.fold_laws.proofs.Changed.{changed_torn}
use Rattle.fold_laws.proofs.Accepted.{written_accepted, loaded_accepted, taken_small}

-- each check of the writer passes
module _ (t folds : List ℕ) (good : text_refusal t ≡ 0) (taken : fold_refusal folds (row_count t) ≡ 0) where
  pub writes_file : (file : List ℕ) → length (file_of folds) ≤ length file →
      (written t folds (length file) ≡ Bytes (length (file_of folds))) × (written_in t folds file ≡ file_of folds ++ drop (length (file_of folds)) file)
  unfolding written written_in write_refusal first_of room_refusal
  writes_file file h = let by_le_leb = le-leb (length (file_of folds)) (length file) h in (rw (good, taken, by_le_leb), rw (good, taken, by_le_leb))

-- and of the reader
module _ (t f : List ℕ) (good : text_refusal t ≡ 0) (whole : layout_refusal f ≡ 0) (taken : fold_refusal (folds_in f) (row_count t) ≡ 0) where
  pub reads_folds : (room : List ℕ) → length (folds_in f) ≤ length room →
      (loaded t f (length room) ≡ Folds (count_in (folds_in f))) × (loaded_in t f room ≡ folds_in f ++ drop (length (folds_in f)) room)
  unfolding loaded loaded_in read_refusal first_of room_refusal
  reads_folds room h = let by_le_leb = le-leb (length (folds_in f)) (length room) h in (rw (good, whole, taken, by_le_leb), rw (good, whole, taken, by_le_leb))

-- reading what was written gives the same list
pub reading_written : (t folds file room : List ℕ) (n : ℕ) → written t folds (length file) ≡ Bytes n → length folds ≤ length room →
    (loaded t (take n (written_in t folds file)) (length room) ≡ Folds (count_in folds))
    × (loaded_in t (take n (written_in t folds file)) room ≡ folds ++ drop (length folds) room)
reading_written t folds file room n e h =
    let by_written_accepted = written_accepted t folds (length file) n e in
    let few = folds_few folds (row_count t) by_written_accepted.taken in
    let most : count_in folds ≤ 280 = omega (arith, few) in
    let same : folds_in (file_of folds) ≡ folds = file_listed folds most (taken_small t folds by_written_accepted.text by_written_accepted.taken) in
    let front_is : take n (written_in t folds file) ≡ file_of folds =
    ap (take n) (writes_file t folds by_written_accepted.text by_written_accepted.taken file by_written_accepted.fits).1
    ∙ take_at (file_of folds) _ n (sym by_written_accepted.size) in
    let taken : fold_refusal (folds_in (file_of folds)) (row_count t) ≡ 0 = rw same by_written_accepted.taken in
    let by_reads_folds = reads_folds t (file_of folds) by_written_accepted.text (file_taken folds most) taken room (rw same h) in
    (rw front_is (by_reads_folds.0 ∙ rw same), rw front_is (by_reads_folds.1 ∙ rw same))

-- every accepted file is what the writer would write
pub accepted_written : (t f : List ℕ) (places n : ℕ) → AllBytes f → loaded t f places ≡ Folds n → (file : List ℕ) → length f ≤ length file →
    (file_of (folds_in f) ≡ f) × (written t (folds_in f) (length file) ≡ Bytes (length f)) × (written_in t (folds_in f) file ≡ f ++ drop (length f) file)
accepted_written t f places n b e file h =
    let by_loaded_accepted = loaded_accepted t f places n e in
    let same : file_of (folds_in f) ≡ f = file_back f b (layout_whole f by_loaded_accepted.whole) in
    let by_writes_file = writes_file t (folds_in f) by_loaded_accepted.text by_loaded_accepted.taken file (rw same h) in
    (same, by_writes_file.0 ∙ rw same, by_writes_file.1 ∙ rw same)

-- a file that is accepted for some text, with one byte changed, is refused with 19 for every text that passes 1 to 3, and nothing is written
pub changed_refused : (s f : List ℕ) (places n : ℕ) → AllBytes f → loaded s f places ≡ Folds n → (i v : ℕ) → i < length f → v < 256 → (v ≡ get_or f i 0 → ⊥) →
    (t room : List ℕ) → text_refusal t ≡ 0 → (loaded t (set f i v) (length room) ≡ Refused 19) × (loaded_in t (set f i v) room ≡ room)
unfolding loaded loaded_in read_refusal first_of
changed_refused s f places n b e i v h small new t room good =
    let by_layout_whole = layout_whole f (loaded_accepted s f places n e).whole in
    let torn = changed_torn f i v by_layout_whole h small b new in
    (rw (good, torn), rw (good, torn))

few_of : (n : ℕ) → blocks_for n ≤ 5 → n ≤ 280
few_of zero h = omega arith
few_of (suc n) h = omega (arith, blocks_some (suc n) (omega arith))

-- among files of 1 to 5 blocks whose sums fit, the six rules hold exactly of those that are the file of the folds they list
pub laid_same : (f : List ℕ) → AllBytes f → is_uncut f ≡ false → any is_torn (blocks_of f) ≡ false →
    (is_broken f ≡ false → file_of (folds_in f) ≡ f) × (file_of (folds_in f) ≡ f → is_broken f ≡ false)
laid_same f b u sums =
    let cut = uncut_false f u in (
      (λ laid. file_back f b (record { blocks = cut.0; some = cut.1; short = cut.2; sums = sums; laid = laid })),
      λ same.
          let folds = folds_in f in
          let size : length f ≡ 512 * blocks_for (count_in folds) = sym (ap length same) ∙ length_file folds in
          rw same at (layout_whole (file_of folds) (file_taken folds (few_of (count_in folds) (omega (arith, size, cut.2))))).laid,
    )
