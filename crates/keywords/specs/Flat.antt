-- What the contracts of `src/flat.rt` cite: the tokens of a table as a flat list of bounds. That it holds what they hold is `flat_same` in
-- `proofs/FlatLaws.antt`. Definitions only. Assumes nothing.
use Rattle.std.specs.Prelude.{ℕ, ◌+◌, ◌-◌, List, [], ◌∷◌, ◌++◌, Bool, false, ◌&&◌, ◌||◌, eqb, leb, length, take, replicate}
use Rattle.letters.specs.Letters.{is_letter}
use Rattle.list_tokens.specs.declared.Token.{Token}
use Rattle.keywords.specs.declared.KeywordSpec.{KeywordSpec}
use Rattle.lists.specs.Lists.{any}
use Rattle.list_tokens.specs.Tokens.{low_of, high_of}
use Rattle.keywords.specs.Table.{kept}

unfoldable pub flat : List Token → List ℕ
flat [] = []
flat (t ∷ ts) = low_of t ∷ high_of t ∷ flat ts

-- 0 in the places up to 256
abbrev pub padded : List ℕ → List ℕ
padded bs = bs ++ replicate (256 - length bs) 0

-- one of the tokens is `@`
abbrev pub any_alpha : List Token → Bool
any_alpha ts = any (λ t. eqb t.kind 1) ts

-- c lies between two bounds of a pair, both ends in
unfoldable pub within : List ℕ → ℕ → Bool
within [] c = false
within (lo ∷ []) c = false
within (lo ∷ hi ∷ bs) c = (leb lo c && leb c hi) || within bs c

abbrev pub flat_holds : List ℕ → Bool → ℕ → Bool
flat_holds bs alphabetic c = (alphabetic && is_letter c) || within bs c

-- what `holds` answers by the bounds and the flag of a table
abbrev pub flat_of : KeywordSpec → ℕ → Bool
flat_of spec c = flat_holds (take (spec.len + spec.len) (padded (flat (kept spec)))) (any_alpha (kept spec)) c
