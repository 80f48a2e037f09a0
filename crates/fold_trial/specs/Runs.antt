-- What an input prints, by what the writer and the reader of fold files say. Document 02, #111. What the contracts of `fold_trial` cite. Definitions
-- only; the laws are in `proofs/`. Long by what an input may be: a clause for each. Assumes nothing.
use Rattle.std.specs.Prelude.{ℕ, ◌≤◌, ◌≡◌, List, [], ◌∷◌, ◌++◌, cond, ◌&&◌, ◌||◌, eqb, ltb, leb, length, get_or, take, drop}
use Rattle.lists.specs.Codes.{codes}
use Rattle.utf8.specs.Decoding.{decoding}
use Rattle.utf8.specs.Walks.{points_of}
use Rattle.session_input.specs.Parts.{is_bad}
use Rattle.print.specs.Print.{decimal}
use Rattle.replay_rows.specs.Cases.{part}
use Rattle.replay_rows.specs.Rows.{Read, these, malformed, read_row, row_length}
use Rattle.fold_blocks.specs.Files.{file_of}
use Rattle.fold_blocks.specs.Listed.{folds_in}
use Rattle.fold_writer.specs.declared.Written.{Written}
use Rattle.fold_writer.specs.declared.Written.TheVariants.{Bytes, Refused}
use Rattle.fold_writer.specs.Writing.{written}
use Rattle.fold_reader.specs.declared.Loaded.{Loaded}
use Rattle.fold_reader.specs.declared.Loaded.TheVariants.{Folds, Refused as Loaded-as-Refused}
use Rattle.fold_reader.specs.Reading.{loaded}

-- an input that can't be read, and a refusal
unfoldable pub unread : List ℕ
unread = codes "refused\n"

unfoldable pub refusal_row : ℕ → List ℕ
refusal_row f = 33 ∷ (decimal f ++ (10 ∷ []))

-- `w`, and each number of the folds behind a space
unfoldable pub spaced : List ℕ → List ℕ
spaced [] = []
spaced (x ∷ l) = 32 ∷ (decimal x ++ spaced l)

unfoldable pub fold_row : List ℕ → List ℕ
fold_row folds = 119 ∷ (spaced folds ++ (10 ∷ []))

-- the file of folds over a text, or the refusal
unfoldable pub by_written : Written → List ℕ → List ℕ
by_written (Bytes n) folds = file_of folds
by_written (Refused f) folds = refusal_row f

abbrev pub file_shown : List ℕ → List ℕ → List ℕ
file_shown t folds = by_written (written t folds 8450) folds

-- the folds of a file over a text, or the refusal
unfoldable pub by_loaded : Loaded → List ℕ → List ℕ
by_loaded (Folds n) f = fold_row (folds_in f)
by_loaded (Loaded-as-Refused n) f = refusal_row n

abbrev pub folds_shown : List ℕ → List ℕ → List ℕ
folds_shown t f = by_loaded (loaded t f 768) f

-- the text is the rest of the input, or what stands there behind the n bytes of the file
unfoldable pub store_in : List ℕ → List ℕ → List ℕ
store_in s folds = cond (is_bad (decoding s)) unread (file_shown (points_of s) folds)

unfoldable pub load_in : ℕ → List ℕ → List ℕ
load_in n s =
    cond (leb n (length s)) (cond (is_bad (decoding (drop n s))) unread (folds_shown (points_of (drop n s)) (take n s))) unread

-- `w` and folds, or `r` and one number
unfoldable pub by_key : ℕ → List ℕ → List ℕ → List ℕ
by_key key ns s = cond (eqb key 119) (store_in s ns) (cond (eqb key 114 && eqb (length ns) 1) (load_in (get_or ns 0 0) s) unread)

unfoldable pub by_row : ℕ → Read → List ℕ → List ℕ
by_row key (these ns) s = by_key key ns s
by_row key malformed s = unread

-- the numbers stand behind the key and a byte that is a space; at most 1,024 are read
unfoldable pub run_of : List ℕ → List ℕ
run_of input =
    let end = row_length input in
    cond (ltb 32768 (length input) || ltb end 2) unread (by_row (get_or input 0 0) (read_row 1024 (part 2 end input)) (drop end input))

-- s is what the first r bytes of out are. The last two follow
pub record Prints (s : List ℕ) (r : ℕ) (out : List ℕ) : Type 0 where
  pub front : take r out ≡ s
  pub within : r ≤ length out
  pub counts : r ≡ length (take r out)

-- the room for what is printed, beside the numbers of folds and beside the bytes of an input
pub record FoldRoom (folds out : List ℕ) : Type 0 where
  pub few : length folds ≤ 768
  pub room : length out ≡ 8450

pub record InputRoom (bytes out : List ℕ) : Type 0 where
  pub brief : length bytes ≤ 32768
  pub room : length out ≡ 8450
