-- What an input prints, by the check of its text and by its first row. Assumes nothing.
use Rattle.lists.proofs.Kit.{◌≡◌, ◌∙◌, List, [], ◌∷◌, Bool, true, false, cond, ℕ, suc, ◌+◌, ◌-◌, ◌≤◌, ◌<◌, arith, length, get_or, take, drop, length-drop, Option, Some, None}
use Rattle.lists.proofs.Kit.{take_all, eqb, lt-ltb, le-ltb, le-leb, lt-leb, eq-eqb, ne_eqb}
use Rattle.utf8.specs.Decoding.{decoding}
use Rattle.utf8.specs.Walks.{points_of}
use Rattle.session_input.specs.Parts.{is_bad}
use Rattle.replay_rows.specs.Cases.{part}
use Rattle.replay_rows.specs.Rows.{these, malformed, read_row, row_length, RowRead}
use Rattle.fold_trial.specs.Runs.{unread, file_shown, folds_shown, store_in, load_in, by_key, by_row, run_of}

-- what is lent from an index on is all the rest
pub rest_whole : (s : List ℕ) (n : ℕ) → take (length s - n) (drop n s) ≡ drop n s
rest_whole s n = take_all (length s - n) (drop n s) (omega (arith, length-drop n s))

-- the check of the text
module _ (s folds : List ℕ) where
  pub store_good : is_bad (decoding s) ≡ false → store_in s folds ≡ file_shown (points_of s) folds
  unfolding store_in
  store_good e = rw e

  pub store_bad : is_bad (decoding s) ≡ true → store_in s folds ≡ unread
  unfolding store_in
  store_bad e = rw e

module _ (n : ℕ) (s : List ℕ) where
  pub load_long : length s < n → load_in n s ≡ unread
  unfolding load_in
  load_long h = rw (lt-leb n (length s) h)

  pub load_good : n ≤ length s → is_bad (decoding (take (length s - n) (drop n s))) ≡ false → load_in n s ≡ folds_shown (points_of (drop n s)) (take n s)
  unfolding load_in
  load_good h e = rw (le-leb n (length s) h, rw (rest_whole s n) at e)

  pub load_bad : n ≤ length s → is_bad (decoding (take (length s - n) (drop n s))) ≡ true → load_in n s ≡ unread
  unfolding load_in
  load_bad h e = rw (le-leb n (length s) h, rw (rest_whole s n) at e)

-- the key
module _ (key : ℕ) (ns s : List ℕ) where
  pub key_write : key ≡ 119 → by_key key ns s ≡ store_in s ns
  unfolding by_key
  key_write e = rw (eq-eqb key 119 e)

  pub key_none : (key ≡ 119 → ⊥) → (key ≡ 114 → ⊥) → by_key key ns s ≡ unread
  unfolding by_key
  key_none m n = rw (ne_eqb key 119 m, ne_eqb key 114 n)

  pub key_many : (key ≡ 119 → ⊥) → key ≡ 114 → (length ns ≡ 1 → ⊥) → by_key key ns s ≡ unread
  unfolding by_key
  key_many m e n = rw (ne_eqb key 119 m, eq-eqb key 114 e, ne_eqb (length ns) 1 n)

  pub key_read : (key ≡ 119 → ⊥) → key ≡ 114 → length ns ≡ 1 → by_key key ns s ≡ load_in (get_or ns 0 0) s
  unfolding by_key
  key_read m e n = rw (ne_eqb key 119 m, eq-eqb key 114 e, eq-eqb (length ns) 1 n)

-- the first row
pub row_most : (s : List ℕ) → row_length s ≤ length s
unfolding row_length
row_most [] = omega arith
row_most (x ∷ s) = go (eqb x 10) (row_most s)
  where
    go : (b : Bool) → row_length s ≤ length s → cond b 1 (suc (row_length s)) ≤ suc (length s)
    go true h = omega arith
    go false h = omega arith

pub run_long : (input : List ℕ) → 32768 < length input → run_of input ≡ unread
unfolding run_of
run_long input h = rw (lt-ltb 32768 (length input) h)

module _ (input : List ℕ) {e : ℕ} (row : e ≡ 0 + row_length (drop 0 input)) (short : length input ≤ 32768) where
  pub run_short : e < 2 → run_of input ≡ unread
  unfolding run_of
  run_short h = rw (le-ltb 32768 (length input) short, lt-ltb (row_length input) 2 (omega (arith, row)))

  run_row : 2 ≤ e → run_of input ≡ by_row (get_or input 0 0) (read_row 1024 (part 2 e input)) (drop e input)
  unfolding run_of
  run_row h =
      let is : e ≡ row_length input = omega (arith, row) in
      rw (is, le-ltb 32768 (length input) short, le-ltb (row_length input) 2 (omega arith))

  module _ (long : 2 ≤ e) {room room' : List ℕ} {r : Option ℕ} (w : RowRead (part 2 e input) room r room') (size : length room ≡ 1024) where
    pub run_count : (n : ℕ) → r ≡ Some n → run_of input ≡ by_key (get_or input 0 0) (take n room') (take (length input - e) (drop e input))
    unfolding by_row
    run_count n k =
        let read : these (take n room') ≡ read_row 1024 (part 2 e input) = rw (k, size) at w.numbers in
        run_row long ∙ rw (← read, rest_whole input e)

    pub run_malformed : r ≡ None → run_of input ≡ unread
    unfolding by_row
    run_malformed k =
        let read : malformed ≡ read_row 1024 (part 2 e input) = rw (k, size) at w.numbers in
        run_row long ∙ rw (← read)

pub count_within : {row room room' : List ℕ} {r : Option ℕ} → RowRead row room r room' → (n : ℕ) → r ≡ Some n → n ≤ length room'
count_within w n k = rw k at w.within
