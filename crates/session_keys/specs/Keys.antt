-- The keys of a session by their bytes. Document 01, "The session". What the contracts of `session_keys` and `session_presses` cite. Definitions only;
-- the laws are in `proofs/` of `session_presses`. Long by its keys: a clause for each. Assumes nothing.
use Rattle.std.specs.Prelude.{ℕ, List, [], ◌∷◌, ◌++◌, Bool, false, cond, ◌||◌}
use Prim.Native.String.{String}
use Rattle.lists.specs.Codes.{codes}
use Rattle.lists.specs.Lists.{is_same}
use Rattle.session_keys.specs.declared.Key.{Key}
use Rattle.session_keys.specs.declared.Key.TheVariants as Key

-- a key and its bytes
pub record Named : Type 0 where
  pub name : List ℕ
  pub key : Key

abbrev pub key : String → Key → Named
key s k = record { name = codes s; key = k }

unfoldable pub two_bytes : List Named
two_bytes =
    key "ge" Key.EndBack
    ∷ key "gE" Key.BigEndBack
    ∷ key "g_" Key.LastNonBlank
    ∷ key "[[" Key.SectionBackward
    ∷ key "]]" Key.SectionForward
    ∷ key "[]" Key.SectionEndBackward
    ∷ key "][" Key.SectionEndForward
    ∷ key "gg" Key.Top
    ∷ []

unfoldable pub word_keys : List Named
word_keys =
    key "h" Key.Left
    ∷ key "l" Key.Right
    ∷ key "w" Key.Word
    ∷ key "b" Key.Back
    ∷ key "e" Key.End
    ∷ key "W" Key.BigWord
    ∷ key "B" Key.BigBack
    ∷ key "E" Key.BigEnd
    ∷ []

unfoldable pub line_keys : List Named
line_keys =
    key "0" Key.LineStart
    ∷ key "^" Key.FirstNonBlank
    ∷ key "$" Key.LineEnd
    ∷ key "{" Key.ParagraphPrev
    ∷ key "}" Key.ParagraphNext
    ∷ key "+" Key.NextLine
    ∷ key "-" Key.PrevLine
    ∷ key "_" Key.Line
    ∷ []

unfoldable pub place_keys : List Named
place_keys = key "G" Key.Bottom ∷ key "|" Key.Column ∷ key "%" Key.Bracket ∷ key "j" Key.Down ∷ key "k" Key.Up ∷ []

-- all of them, those of two bytes first
abbrev pub table : List Named
table = two_bytes ++ word_keys ++ line_keys ++ place_keys

-- the first key of that name
unfoldable pub found : List Named → List ℕ → Key
found [] name = Key.Unknown
found (k ∷ rest) name = cond (is_same name k.name) k.key (found rest name)

abbrev pub key_of : List ℕ → Key
key_of name = found table name

-- whether a table has a key of that name: only where it has none is a press refused with 0 (`pressed_unknown` of `session_presses`)
unfoldable pub is_known : List Named → List ℕ → Bool
is_known [] name = false
is_known (k ∷ rest) name = is_same name k.name || is_known rest name
