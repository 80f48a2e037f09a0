-- The calls of the tables by what they ask, and their replies in short. Definitions only. Long by its calls: a short name for each. Assumes nothing.
use Rattle.std.specs.Prelude.{ℕ, ◌+◌, ◌-◌, List, [], ◌∷◌, Bool, true, false, replicate}
use Prim.Native.String.{String}
use Rattle.lists.specs.Codes.{codes}
use Rattle.call_bytes.specs.declared.Told.{Told}
use Rattle.call_bytes.specs.declared.Told.TheVariants.{Value, Refused}
use Rattle.call_bytes.specs.Reply.{Reply, answer, refused}
use Rattle.call_texts.specs.Carets.{caret_of}
use Rattle.call_rows.specs.Lists.{keywords}
use Rattle.call_texts.specs.Moves.{motions}
use Rattle.call_texts.specs.Partners.{partner}
use Rattle.call_texts.specs.Inners.{inner}
use Rattle.call_texts.specs.Seeks.{seeks}
use Rattle.call_rows.specs.Tabs.{tab_columns}
use Rattle.call_rows.specs.Wraps.{segmented, segments_left}
use Rattle.call_folds.specs.Terms.{words}
use Rattle.list_signs.specs.Plain.{plain_in}
use Rattle.call_signs.specs.Entry.{placed_reply, entering}
use Rattle.call_signs.specs.Plain.{plain_told}
use Rattle.call_signs.specs.declared.Placed.{Placed}
use Rattle.call_signs.specs.declared.Placed.TheVariants.{Value as Placed-as-Value, Refused as Placed-as-Refused}
use Rattle.call_vim.specs.Vim.{vim_by, vim_writing, vim_left}

-- brackets: a partner, the innermost pair of a kind, and the % key
abbrev pub pair : String → ℕ → ℕ → Reply
pair t r c = partner r c (codes t)

abbrev pub inside : ℕ → String → ℕ → ℕ → Reply
inside kind t r c = inner kind r c (codes t)

abbrev pub key : String → ℕ → ℕ → Reply
key t r c = seeks 0 0 (caret_of r c 0 0) (codes t)

-- till x, forward: without and with the adjacent match skipped
abbrev pub till : Bool → String → Reply
till false t = seeks 4 120 (caret_of 0 0 0 0) (codes t)
till true t = seeks 8 120 (caret_of 0 0 0 0) (codes t)

-- the count and the segments, by Char or Word, in room for two that holds 9s
abbrev pub counted : Told → List ℕ → Reply
counted (Value n) segments = answer (n ∷ segments)
counted (Refused f) segments = refused f

abbrev pub wrapped : ℕ → ℕ → List ℕ → Reply
wrapped mode width line = counted (segmented mode width (9 ∷ 9 ∷ 9 ∷ 9 ∷ []) line) (segments_left mode width (9 ∷ 9 ∷ 9 ∷ 9 ∷ []) line)

abbrev pub by_char : ℕ → List ℕ → Reply
by_char = wrapped 1

abbrev pub by_word : ℕ → List ℕ → Reply
by_word = wrapped 2

abbrev pub cursor : ℕ → Reply
cursor col = tab_columns 2 col 8 (codes "\tx")

abbrev pub cell : ℕ → Reply
cell col = tab_columns 0 col 8 (codes "\tx")

abbrev pub paragraph : ℕ → Reply
paragraph n = motions 11 n (caret_of 0 0 0 0) (codes "a\n\nb")

abbrev pub word : Bool → Reply
word big = words 0 big 1 (caret_of 1 0 0 0) (codes "a\n\n\nb") [] (codes "@,48-57,_")

-- whether a keyword list holds a code
abbrev pub holds : String → ℕ → Reply
holds list c = keywords 2 c (codes list)

-- a keyword list entered, and asked of a code; and written without its retired signs into six places that hold 9s
abbrev pub entered : String → Reply
entered list = placed_reply (entering 0 0 (codes list))

abbrev pub entered_holds : String → ℕ → Reply
entered_holds list c = placed_reply (entering 1 c (codes list))

abbrev pub plainly : String → Reply
plainly list = counted (plain_told (replicate 6 9) (codes list)) (plain_in (codes list) (replicate 6 9))

-- Vim's own lists: how many tokens, whether they hold a character, and the list written into six places that hold 9s
abbrev pub vim_read : String → Reply
vim_read list = placed_reply (vim_by 0 0 (codes list))

abbrev pub vim_holds : String → ℕ → Reply
vim_holds list c = placed_reply (vim_by 1 c (codes list))

abbrev pub placed_counted : Placed → List ℕ → Reply
placed_counted (Placed-as-Value n) left = answer (n ∷ left)
placed_counted (Placed-as-Refused f) left = refused f

abbrev pub vim_again : String → Reply
vim_again list = placed_counted (vim_writing (codes list) (replicate 6 9)) (vim_left (codes list) (replicate 6 9))

-- a partner, none; a caret; a search that found, and its caret
abbrev pub with : ℕ → ℕ → List ℕ
with r c = 1 ∷ r ∷ c ∷ []

abbrev pub none : List ℕ
none = 0 ∷ 0 ∷ 0 ∷ []

-- the innermost pair: between its brackets from one position to another, and with them; no pair
abbrev pub spans : ℕ → ℕ → ℕ → ℕ → List ℕ
spans r c r' c' = 1 ∷ r ∷ c ∷ r' ∷ c' ∷ r ∷ (c - 1) ∷ r' ∷ (c' + 1) ∷ []

abbrev pub alone : List ℕ
alone = replicate 9 0

abbrev pub at : ℕ → ℕ → List ℕ
at r c = r ∷ c ∷ 0 ∷ 0 ∷ []

abbrev pub found : ℕ → ℕ → List ℕ
found r c = 1 ∷ at r c

abbrev pub yes : List ℕ
yes = 1 ∷ []

abbrev pub no : List ℕ
no = 0 ∷ []

abbrev pub branch : String
branch = "if (n) {\nx (y)\n}"
