-- What the contracts of `src/tokens.rt` cite: the tokens of a list, and the set of characters that they hold. Document 01, "Keyword lists".
-- Definitions only; the laws are in `proofs/TokenLaws.antt`. Assumes nothing.
use Rattle.std.specs.Prelude.{ℕ, ◌+◌, List, [], ◌∷◌, Bool, cond, ◌&&◌, eqb, leb, take, drop}
use Rattle.lists.specs.Lists.{any, up_to}
use Rattle.letters.specs.Letters.{is_letter}
use Rattle.list_tokens.specs.declared.Token.{Token}
use Rattle.list_tokens.specs.declared.tokens.Step.{Step}
use Rattle.list_parts.specs.Parts.{parts, trim}
use Rattle.list_tokens.specs.Grammar.{is_token, token_of}

-- the tokens of parts in order, trimmed; what is none is left out
unfoldable pub tokens_in : List (List ℕ) → List Token
tokens_in [] = []
tokens_in (p ∷ ps) = let t = token_of (trim p) in let ts = tokens_in ps in cond (is_token t) (t ∷ ts) ts

abbrev pub tokens : List ℕ → List Token
tokens list = tokens_in (parts list)

abbrev pub token_holds : Token → ℕ → Bool
token_holds t c = cond (eqb t.kind 1) (is_letter c) (eqb t.kind 2 && (leb t.lo c && leb c t.hi))

-- the first code of a token and the last; 1 and 0, which hold nothing, where it is no range
abbrev pub low_of : Token → ℕ
low_of t = cond (eqb t.kind 2) t.lo 1

abbrev pub high_of : Token → ℕ
high_of t = cond (eqb t.kind 2) t.hi 0

abbrev pub any_token : List Token → ℕ → Bool
any_token ts c = any (λ t. token_holds t c) ts

-- the set of characters of a list
abbrev pub in_list : List ℕ → ℕ → Bool
in_list list c = any_token (tokens list) c

-- the token of the part that begins at an index, and where the next part begins
abbrev pub step_of : List ℕ → ℕ → Step
step_of list i =
    let n = up_to 44 (drop i list) in
    record { token = token_of (trim (take n (drop i list))); next = i + n + 1 }
