-- What the contracts of `src/keyword_spec.rt` cite: the token table, and the answers of `parse`, `matches` and `is_keyword_char`.
-- Definitions only; the laws are in `proofs/TableLaws.antt`, and that the three agree is `agree` in `proofs/Agree.antt`. Assumes nothing.
use Rattle.std.specs.Prelude.{ℕ, zero, suc, ◌+◌, ◌-◌, List, [], ◌++◌, Bool, length, take, set, replicate}
use Rattle.list_tokens.specs.declared.Token.{Token}
use Rattle.keywords.specs.declared.KeywordSpec.{KeywordSpec}
use Rattle.keywords.specs.declared.Parsed.{Parsed}
use Rattle.keywords.specs.declared.Matched.{Matched}
use Rattle.keywords.specs.declared.Matched.TheVariants.{Is, Refused}
use Rattle.list_tokens.specs.Grammar.{no_token}
use Rattle.list_tokens.specs.Tokens.{tokens, any_token, in_list}
use Rattle.list_parts.specs.Refusals.{char_refusal, list_refusal, table_refusal, lowest}

-- the table of a list of tokens: they, and then empty places up to 128
abbrev pub table : List Token → KeywordSpec
table ts = record { tokens = ts ++ replicate (128 - length ts) no_token; len = length ts }

-- the tokens of a table
abbrev pub kept : KeywordSpec → List Token
kept spec = take spec.len spec.tokens

-- one more token
abbrev pub pushed : KeywordSpec → Token → KeywordSpec
pushed spec t = record { tokens = set spec.tokens spec.len t; len = spec.len + 1 }

-- a refusal has the empty table in the table's place
abbrev pub refused_by : ℕ → Parsed
refused_by n = record { refusal = n; spec = table [] }

-- the same for `parse`: number 0 and the table of the tokens, or another number and the empty table
abbrev pub parsed : ℕ → List Token → Parsed
parsed zero ts = record { refusal = 0; spec = table ts }
parsed (suc n) ts = refused_by (suc n)

-- the answer for a number of document 01 and a value: `Is` has the number 0 and the value, `Refused` a number other than 0
abbrev pub matched : ℕ → Bool → Matched
matched zero b = Is b
matched (suc n) b = Refused (suc n)

abbrev pub parse_of : List ℕ → Parsed
parse_of list = parsed (lowest (list_refusal list) (table_refusal (length (tokens list)))) (tokens list)

abbrev pub matches_of : KeywordSpec → ℕ → Matched
matches_of spec c = matched (lowest (char_refusal c) (table_refusal spec.len)) (any_token (kept spec) c)

abbrev pub keyword_char : ℕ → List ℕ → Matched
keyword_char c list = matched (lowest (char_refusal c) (list_refusal list)) (in_list list c)

-- the answer of an accepted list
abbrev pub read_all : List ℕ → Parsed
read_all list = parsed (table_refusal (length (tokens list))) (tokens list)
