-- What the contracts of `src/` cite: the place of the first retired sign, a list without them, and the answers of `enter` and `without_plus`.
-- Document 02, #112. Definitions only; the laws are in `proofs/`. Assumes nothing.
use Rattle.std.specs.Prelude.{ℕ, suc, ◌≤◌, List, [], ◌∷◌, ◌++◌, Bool, cond, eqb, ltb, leb, length, drop}
use Rattle.list_parts.specs.Refusals.{list_refusal}
use Rattle.keywords.specs.declared.Parsed.{Parsed}
use Rattle.keywords.specs.Table.{table, parse_of}
use Rattle.list_signs.specs.declared.Entered.{Entered}
use Rattle.list_signs.specs.declared.Plain.{Plain}
use Rattle.list_signs.specs.declared.Plain.TheVariants.{Made, Refused}
use Rattle.list_signs.specs.Signs.{signs}

-- where the first mark is true; the list's length where none is
unfoldable pub first_in : List ℕ → List Bool → ℕ
first_in [] ms = 0
first_in (x ∷ l) [] = suc (first_in l [])
first_in (x ∷ l) (m ∷ ms) = cond m 0 (suc (first_in l ms))

-- what has no mark that is true, in order
unfoldable pub without : List ℕ → List Bool → List ℕ
without [] ms = []
without (x ∷ l) [] = x ∷ l
without (x ∷ l) (m ∷ ms) = cond m (without l ms) (x ∷ without l ms)

-- what writing it requires: a mark for each, and room for what has none
pub record PlainRoom (list : List ℕ) (marks : List Bool) (room : List ℕ) : Type 0 where
  pub marks_there : length list ≤ length marks
  pub fits : length (without list marks) ≤ length room

abbrev pub first_sign : List ℕ → ℕ
first_sign list = first_in list (signs list)

abbrev pub plain : List ℕ → List ℕ
plain list = without list (signs list)

-- a refusal, its place, and the empty table
abbrev pub refused_at : ℕ → ℕ → Entered
refused_at n place = record { refusal = n; place = place; spec = table [] }

-- the answer of `parse`, which has no place
abbrev pub entered_by : Parsed → Entered
entered_by p = record { refusal = p.refusal; place = 0; spec = p.spec }

-- 7, then 21 at the first retired sign; else as `parse`, which may refuse 8
abbrev pub entry_of : List ℕ → Entered
entry_of list =
    cond (eqb (list_refusal list) 0) (cond (ltb (first_sign list) (length list)) (refused_at 21 (first_sign list)) (entered_by (parse_of list))) (refused_at 7 0)

-- 7, then 14 for too little room
abbrev pub plain_refusal : List ℕ → List ℕ → ℕ
plain_refusal list room = cond (eqb (list_refusal list) 0) (cond (leb (length (plain list)) (length room)) 0 14) 7

-- the answer of `without_plus` into a room
abbrev pub plain_of : List ℕ → List ℕ → Plain
plain_of list room = cond (eqb (plain_refusal list room) 0) (Made (length (plain list))) (Refused (plain_refusal list room))

-- what it leaves there: the list at the front, what stood past it as it was; on a refusal all as it was
abbrev pub plain_in : List ℕ → List ℕ → List ℕ
plain_in list room = cond (eqb (plain_refusal list room) 0) (plain list ++ drop (length (plain list)) room) room
