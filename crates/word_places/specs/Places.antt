-- Places of a text by their classes alone: the kind at a place, and the steps from place to place. Document 02, #113.
-- A place is a number below the length of the slice of classes; its last place is the text's end. Definitions only. Assumes nothing.
use Rattle.std.specs.Prelude.{ℕ, zero, suc, ◌+◌, ◌-◌, List, Bool, cond, ◌&&◌, not, length, get_or, eqb, ltb, leb, Option, Some, None}

-- the class of a place; behind the slice there are row ends alone
abbrev pub class_at : List ℕ → ℕ → ℕ
class_at c i = get_or c i 4

-- an empty row or a row end
abbrev pub is_end : List ℕ → ℕ → Bool
is_end c i = leb 3 (class_at c i)

abbrev pub is_empty : List ℕ → ℕ → Bool
is_empty c i = eqb (class_at c i) 3

-- the kind by which places are told apart: an empty row is a row end, and for the big words a mark is a word
unfoldable pub kind_for : Bool → ℕ → ℕ
kind_for big x = cond (eqb x 3) 4 (cond (big && eqb x 1) 0 x)

abbrev pub kind : List ℕ → Bool → ℕ → ℕ
kind c big i = kind_for big (class_at c i)

-- the same with the row's end as a space
abbrev pub soft : List ℕ → Bool → ℕ → ℕ
soft c big i = cond (eqb (kind c big i) 4) 2 (kind c big i)

-- the text's end
abbrev pub text_end : List ℕ → ℕ
text_end c = length c - 1

-- one place on, over the row's end; the text's end is never stepped on
abbrev pub ahead : List ℕ → ℕ → ℕ
ahead c i = cond (not (is_end c i) && is_end c (i + 1)) (i + 2) (i + 1)

unfoldable pub forward : List ℕ → ℕ → Option ℕ
forward c i = cond (ltb (ahead c i) (text_end c)) (Some (ahead c i)) None

-- one place back
abbrev pub backward : ℕ → Option ℕ
backward zero = None
backward (suc i) = Some i

-- on from a step, or else
abbrev pub further : {A : Type 0} → Option ℕ → (ℕ → A) → A → A
further (Some j) f z = f j
further None f z = z
