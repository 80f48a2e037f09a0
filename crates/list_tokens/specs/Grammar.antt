-- What the contracts of `src/tokens.rt` cite: which token a part of a list is. Document 01, "Keyword lists".
-- Definitions only; the laws are in `proofs/TokenLaws.antt`. Assumes nothing.
use Rattle.std.specs.Prelude.{ℕ, ◌+◌, List, [], ◌∷◌, Bool, false, cond, not, eqb, ltb, length, take, drop, Option, Some, None}
use Rattle.list_tokens.specs.declared.Token.{Token}
use Rattle.list_parts.specs.Numbers.{number_of}
use Rattle.lists.specs.Lists.{up_to}

abbrev pub no_token : Token
no_token = record { kind = 0; lo = 0; hi = 0 }

-- `@`: every letter
abbrev pub alpha : Token
alpha = record { kind = 1; lo = 0; hi = 0 }

-- the codes lo to hi, both ends in
abbrev pub codes : ℕ → ℕ → Token
codes lo hi = record { kind = 2; lo = lo; hi = hi }

abbrev pub is_token : Token → Bool
is_token t = not (eqb t.kind 0)

-- the part is `@`
abbrev pub is_at : List ℕ → Bool
is_at [] = false
is_at (x ∷ []) = eqb x 64
is_at (x ∷ y ∷ p) = false

-- one character is itself
abbrev pub single : List ℕ → Token
single [] = no_token
single (x ∷ []) = codes x x
single (x ∷ y ∷ p) = no_token

-- a number is that code, and else t
abbrev pub code_or : Option ℕ → Token → Token
code_or (Some n) t = codes n n
code_or None t = t

abbrev pub code_of : List ℕ → Token
code_of p = code_or (number_of p) (single p)

-- two numbers are a range
abbrev pub between : Option ℕ → Option ℕ → Token
between (Some lo) (Some hi) = codes lo hi
between (Some lo) None = no_token
between None n = no_token

-- split at the first `-`
abbrev pub range_of : List ℕ → Token
range_of p = let d = up_to 45 p in cond (ltb d (length p)) (between (number_of (take d p)) (number_of (drop (d + 1) p))) no_token

-- the first that fits: `@`, a range, a code, a character; a part that fits none, as the empty one, is no token
abbrev pub token_of : List ℕ → Token
token_of p = cond (is_at p) alpha (cond (is_token (range_of p)) (range_of p) (code_of p))
