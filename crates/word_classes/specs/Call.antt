-- The call that writes the classes of a text into a lent slice: its refusals, its answer, and what it leaves. Document 02, #113.
-- Definitions only; the laws are in `proofs/Refusing.antt`. Assumes nothing.
use Rattle.std.specs.Prelude.{ℕ, ◌+◌, List, [], ◌∷◌, cond, eqb, ltb, length}
use Rattle.text_check.specs.Accept.{text_refusal}
use Rattle.list_tokens.specs.Tokens.{in_list}
use Rattle.keywords.specs.Table.{parse_of}
use Rattle.positions.specs.Positions.{lowest}
use Rattle.word_classes.specs.declared.Written.{Written}
use Rattle.word_classes.specs.declared.Written.TheVariants.{Made, Refused}
use Rattle.word_classes.specs.Classes.{classes_of, holding}

-- 14: the slice has fewer places than the text's code points and its end
unfoldable pub places_refusal : List ℕ → List ℕ → ℕ
places_refusal t room = cond (ltb (length t) (length room)) 0 14

-- the text, the list, and then 14
abbrev pub write_refusal : List ℕ → List ℕ → List ℕ → ℕ
write_refusal t list room = lowest (text_refusal t ∷ (parse_of list).refusal ∷ places_refusal t room ∷ [])

-- so many classes, where nothing is refused
unfoldable pub written_by : ℕ → ℕ → Written
written_by f n = cond (eqb f 0) (Made n) (Refused f)

abbrev pub written_of : List ℕ → List ℕ → List ℕ → Written
written_of t list room = written_by (write_refusal t list room) (length t + 1)

-- the slice after a call with refusal f: the classes in front, or as it was where the call is refused
abbrev pub sliced_by : ℕ → List ℕ → List ℕ → List ℕ → List ℕ
sliced_by f t list room = cond (eqb f 0) (holding (classes_of (in_list list) t) room) room
