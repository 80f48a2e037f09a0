-- What an answer of the writer or of the reader says: each check passed. Assumes nothing.
use Rattle.lists.proofs.Kit.{◌≡◌, refl, sym, List, [], ◌∷◌, Bool, true, false, cond, ◌||◌, ℕ, ◌/◌, ◌%◌, ◌≤◌, arith, length, eqb, ltb, leb, eqb-true, leb-true}
use Rattle.lists.proofs.Kit.{leb-false, ltb-false}
use Rattle.text_check.specs.Accept.{text_refusal}
use Rattle.text_check.proofs.Accepted.{accepted_short}
use Rattle.text.specs.Text.{row_count}
use Rattle.text.proofs.Parts.{count_le}
use Rattle.positions.proofs.Lowest.{lowest_none}
use Rattle.folds.specs.Folds.{fold_refusal, any_fold, bad_fold}
use Rattle.folds.proofs.Past.{folds_good}
use Rattle.fold_blocks.specs.Files.{count_in, file_of}
use Rattle.fold_blocks.specs.Listed.{folds_in}
use Rattle.fold_blocks.specs.Layout.{layout_refusal, room_refusal}
use Rattle.fold_blocks.proofs.Files.{length_file, blocks_few}
use Rattle.fold_writer.specs.declared.Written.TheVariants.{Bytes, Refused}
use Rattle.fold_writer.specs.Writing.{write_refusal, written}
use Rattle.fold_writer.proofs.Answers.{folds_few, folds_whole}
use Rattle.fold_reader.specs.declared.Loaded.TheVariants.{Folds, Refused as Loaded-as-Refused}
use Rattle.fold_reader.specs.Reading.{read_refusal, loaded}
use Rattle.fold_laws.proofs.Numbers.{Small}

room_none : (n room : ℕ) → room_refusal n room ≡ 0 → n ≤ room
unfolding room_refusal
room_none n room e = go (leb n room) refl e
  where
    go : (b : Bool) → leb n room ≡ b → ◌≡◌ {A = ℕ} (cond b 0 14) 0 → n ≤ room
    go true p q = leb-true _ _ p
    go false p q = absurd (omega arith)

pub record WriteAccepted (t folds : List ℕ) (room n : ℕ) : Type 0 where
  pub text : text_refusal t ≡ 0
  pub taken : fold_refusal folds (row_count t) ≡ 0
  pub fits : length (file_of folds) ≤ room
  pub size : n ≡ length (file_of folds)

pub written_accepted : (t folds : List ℕ) (room n : ℕ) → written t folds room ≡ Bytes n → WriteAccepted t folds room n
unfolding written write_refusal
written_accepted t folds room n e = go (eqb (write_refusal t folds room) 0) refl e
  where
    go : (b : Bool) → eqb (write_refusal t folds room) 0 ≡ b → cond b (Bytes (length (file_of folds))) (Refused (write_refusal t folds room)) ≡ Bytes n →
        WriteAccepted t folds room n
    go true p q =
        let first = lowest_none (text_refusal t) _ (eqb-true _ _ p) in
        let second = lowest_none (fold_refusal folds (row_count t)) _ first.1 in
        let third = lowest_none (room_refusal (length (file_of folds)) room) _ second.1 in
        let same : length (file_of folds) ≡ n = cc in
        record { text = first.0; taken = second.0; fits = room_none _ _ third.0; size = sym same }
    go false p q = let never : ◌≡◌ {A = ℕ} 0 1 = cc in absurd (omega arith)

pub record ReadAccepted (t f : List ℕ) (room n : ℕ) : Type 0 where
  pub text : text_refusal t ≡ 0
  pub whole : layout_refusal f ≡ 0
  pub taken : fold_refusal (folds_in f) (row_count t) ≡ 0
  pub fits : length (folds_in f) ≤ room
  pub size : n ≡ count_in (folds_in f)

pub loaded_accepted : (t f : List ℕ) (room n : ℕ) → loaded t f room ≡ Folds n → ReadAccepted t f room n
unfolding loaded read_refusal
loaded_accepted t f room n e = go (eqb (read_refusal t f room) 0) refl e
  where
    go : (b : Bool) → eqb (read_refusal t f room) 0 ≡ b → cond b (Folds (count_in (folds_in f))) (Loaded-as-Refused (read_refusal t f room)) ≡ Folds n →
        ReadAccepted t f room n
    go true p q =
        let first = lowest_none (text_refusal t) _ (eqb-true _ _ p) in
        let second = lowest_none (layout_refusal f) _ first.1 in
        let third = lowest_none (fold_refusal (folds_in f) (row_count t)) _ second.1 in
        let fourth = lowest_none (room_refusal (length (folds_in f)) room) _ third.1 in
        let same : count_in (folds_in f) ≡ n = cc in
        record { text = first.0; whole = second.0; taken = third.0; fits = room_none _ _ fourth.0; size = sym same }
    go false p q = let never : ◌≡◌ {A = ℕ} 0 1 = cc in absurd (omega arith)

-- folds that a text takes fit their entries
small_of : (folds : List ℕ) (rows : ℕ) → rows ≤ 4294967296 → length folds % 3 ≡ 0 → any_fold (bad_fold rows) folds ≡ false → Small folds
unfolding any_fold Small
small_of [] rows h m e = omega arith
small_of (s ∷ []) rows h m e = absurd (omega arith)
small_of (s ∷ f ∷ []) rows h m e = absurd (omega arith)
small_of (s ∷ f ∷ c ∷ l) rows h m e =
    let by_or_parts = or_parts (bad_fold rows s f c) (any_fold (bad_fold rows) l) e in
    let or_parts_here = or_parts (ltb f s) _ by_or_parts.0 in
    let or_parts_so = or_parts (leb rows f) _ or_parts_here.1 in
    let end = leb-false rows f or_parts_so.0 in (
      omega (arith, ltb-false f s or_parts_here.0, end),
      omega (arith, end),
      omega (arith, ltb-false 1 c or_parts_so.1),
      small_of l rows h (omega arith) by_or_parts.1,
    )
  where
    or_parts : (a b : Bool) → (a || b) ≡ false → (a ≡ false) × (b ≡ false)
    or_parts true b e = let never : ◌≡◌ {A = ℕ} 0 1 = cc in absurd (omega arith)
    or_parts false b e = (refl, e)

pub taken_small : (t folds : List ℕ) → text_refusal t ≡ 0 → fold_refusal folds (row_count t) ≡ 0 → Small folds
taken_small t folds g e =
    small_of folds (row_count t) (omega (arith, count_le t, accepted_short t g)) (folds_whole folds (row_count t) e) (folds_good folds (row_count t) e)

-- what is answered fits a u32
pub written_most : (t folds : List ℕ) (room n : ℕ) → written t folds room ≡ Bytes n → n ≤ 2560
written_most t folds room n e =
    let by_written_accepted = written_accepted t folds room n e in
    let few = folds_few folds (row_count t) by_written_accepted.taken in
    omega (arith, by_written_accepted.size, length_file folds, blocks_few (length folds / 3) (omega (arith, few)))

pub loaded_most : (t f : List ℕ) (room n : ℕ) → loaded t f room ≡ Folds n → n ≤ 256
loaded_most t f room n e =
    let by_loaded_accepted = loaded_accepted t f room n e in
    omega (arith, by_loaded_accepted.size, folds_few (folds_in f) (row_count t) by_loaded_accepted.taken)
