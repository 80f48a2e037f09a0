-- Document 01's examples P1 to P12 in one table, over the replies of the exported calls: what each gives, by their definitions. Definitions only;
-- `proofs/Examples.antt` computes it. Long by its table: a row for each example. Assumes nothing.
use Rattle.std.specs.Prelude.{ℕ, ◌≡◌, List, [], ◌∷◌, true, false}
use Prim.Native.String.{String}
use Rattle.keywords.specs.Worked.{P11}
use Rattle.call_bytes.specs.Reply.{Reply, answer}
use Rattle.call_texts.specs.Rows.{row_count}
use Rattle.lists.specs.Codes.{codes}
use Rattle.promises.specs.Asking.{pair, inside, key, till, by_char, by_word, cursor, cell, paragraph, word, holds, with, none, spans, at, found, yes, no}
use Rattle.promises.specs.Asking.{branch}

-- a call's reply, and what it is to be
pub record Row : Type 0 where
  pub name : String
  pub gives : Reply
  pub wanted : Reply

abbrev pub row : String → Reply → List ℕ → Row
row name gives wanted = record { name = name; gives = gives; wanted = answer wanted }

-- P11 at the codes where the lists begin and end
unfoldable pub table : List Row
table =
    row "P1" (pair branch 0 7) (with 2 0) ∷
    row "P1" (pair branch 2 0) (with 0 7) ∷
    row "P1" (pair branch 0 2) none ∷
    row "P1" (inside 2 branch 1 2) (spans 0 8 2 0) ∷
    row "P2" (pair "<<>" 0 0) none ∷
    row "P2" (pair "<<>" 0 1) (with 0 2) ∷
    row "P2" (pair "<<>" 0 2) (with 0 1) ∷
    row "P3" (pair "([)]" 0 0) (with 0 2) ∷
    row "P3" (pair "([)]" 0 1) (with 0 3) ∷
    row "P3" (inside 0 "([)]" 0 1) (spans 0 1 0 2) ∷
    row "P3" (inside 1 "([)]" 0 2) (spans 0 2 0 3) ∷
    row "P4" (key "<(>)" 0 0) (found 0 3) ∷
    row "P4" (pair "<(>)" 0 0) (with 0 2) ∷
    row "P5" (by_word 4 (codes "ab cd")) (2 ∷ 0 ∷ 3 ∷ 3 ∷ 5 ∷ []) ∷
    row "P5" (by_char 4 (codes "ab cd")) (2 ∷ 0 ∷ 4 ∷ 4 ∷ 5 ∷ []) ∷
    row "P6" (by_char 1 (0x3042 ∷ 0x3042 ∷ [])) (2 ∷ 0 ∷ 1 ∷ 1 ∷ 2 ∷ []) ∷
    row "P7" (cursor 0) (7 ∷ []) ∷
    row "P7" (cursor 1) (8 ∷ []) ∷
    row "P7" (cell 7) (0 ∷ []) ∷
    row "P7" (cell 8) (1 ∷ []) ∷
    row "P8" (row_count []) (1 ∷ []) ∷
    row "P8" (row_count (codes "\n")) (1 ∷ []) ∷
    row "P8" (row_count (codes "a\n\n")) (2 ∷ []) ∷
    row "P9" (paragraph 1) (at 1 0) ∷
    row "P9" (paragraph 2) (at 2 0) ∷
    row "P9" (paragraph 3) (at 0 0) ∷
    row "P10" (word false) (at 2 0) ∷
    row "P10" (word true) (at 3 0) ∷
    row "P11" (holds "+48-57" 47) no ∷
    row "P11" (holds "+48-57" 48) yes ∷
    row "P11" (holds "+48-57" 57) yes ∷
    row "P11" (holds "+48-57" 58) no ∷
    row "P11" (holds "a-z" 97) no ∷
    row "P11" (holds "a-z" 45) no ∷
    row "P11" (holds "a-z" 122) no ∷
    row "P11" (holds "57-48" 48) no ∷
    row "P11" (holds "57-48" 57) no ∷
    row "P11" (holds "5" 5) yes ∷
    row "P11" (holds "5" 53) no ∷
    row "P12" (till false "axx") (found 0 0) ∷
    row "P12" (till true "axx") (found 0 1) ∷
    []

-- the two sides of the table
abbrev pub given : List Row → List Reply
given [] = []
given (r ∷ l) = r.gives ∷ given l

abbrev pub asked : List Row → List Reply
asked [] = []
asked (r ∷ l) = r.wanted ∷ asked l

-- P1 to P12: every call of the table gives what it is asked, and P11 holds of every code
pub record Examples : Type 0 where
  pub table : given table ≡ asked table
  pub p11 : P11
