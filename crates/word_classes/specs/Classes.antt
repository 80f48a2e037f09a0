-- The classes of a text: one for each code point, and one for the text's end. 0 word, 1 mark, 2 space, 3 empty row, 4 row end.
-- Document 02, #113. Cited by the contracts of `src/`. Definitions only; the laws are in `proofs/`. Assumes nothing.
use Rattle.std.specs.Prelude.{ℕ, ◌≤◌, ◌<◌, ◌≡◌, List, [], ◌∷◌, ◌++◌, Bool, true, cond, length, drop, eqb}
use Rattle.chars.specs.White.{is_white}
use Rattle.chars.specs.Scalar.{is_scalar}
use Rattle.text_check.specs.Accept.{text_refusal}
use Rattle.keywords.specs.declared.KeywordSpec.{KeywordSpec}

-- the class of a character: white space before all, and then what `word` holds
unfoldable pub char_class : (ℕ → Bool) → ℕ → ℕ
char_class word x = cond (is_white x) 2 (cond (word x) 0 1)

-- the class of a place that ends a row, by whether nothing of the row stands before it
unfoldable pub end_class : Bool → ℕ
end_class first = cond first 3 4

unfoldable pub class_of : (ℕ → Bool) → Bool → ℕ → ℕ
class_of word first x = cond (eqb x 10) (end_class first) (char_class word x)

-- the classes of a text, of which the first place may be the first of its row
unfoldable pub classes_from : (ℕ → Bool) → Bool → List ℕ → List ℕ
classes_from word first [] = end_class first ∷ []
classes_from word first (x ∷ t) = class_of word first x ∷ classes_from word (eqb x 10) t

abbrev pub classes_of : (ℕ → Bool) → List ℕ → List ℕ
classes_of word t = classes_from word true t

-- a slice in which they stand in front; the places past them stay
abbrev pub holding : List ℕ → List ℕ → List ℕ
holding classes room = classes ++ drop (length classes) room

-- what a test of one character requires: a scalar value, and a table that was read
pub record Askable (spec : KeywordSpec) (x : ℕ) : Type 0 where
  pub scalar : is_scalar x ≡ true
  pub short : spec.len ≤ 128

-- and what writing the classes requires: a text that was accepted, such a table, and the places
pub record Writable (t : List ℕ) (spec : KeywordSpec) (room : List ℕ) : Type 0 where
  pub clear : text_refusal t ≡ 0
  pub short : spec.len ≤ 128
  pub places : length t < length room
