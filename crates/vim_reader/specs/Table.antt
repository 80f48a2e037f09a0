-- What the contracts of `src/vim_spec.rt` cite: the token table, and the answers of `parse`, `matches` and `is_vim_char`. Document 02, #108.
-- Definitions only; the laws are in `proofs/`. Assumes nothing.
use Rattle.std.specs.Prelude.{ℕ, zero, suc, ◌+◌, ◌-◌, List, [], ◌++◌, Bool, cond, eqb, leb, length, take, set, replicate}
use Rattle.list_parts.specs.Refusals.{char_refusal, list_refusal, table_refusal, lowest}
use Rattle.vim_grammar.specs.declared.VimToken.{VimToken}
use Rattle.vim_grammar.specs.Tokens.{no_token, in_vim}
use Rattle.vim_reader.specs.declared.VimSpec.{VimSpec}
use Rattle.vim_reader.specs.declared.VimRead.{VimRead}
use Rattle.vim_reader.specs.declared.VimMatched.{VimMatched}
use Rattle.vim_reader.specs.declared.VimMatched.TheVariants.{Is, Refused}
use Rattle.vim_reader.specs.declared.VimTested.{VimTested}
use Rattle.vim_reader.specs.declared.VimTested.TheVariants.{Is as Tested-as-Is, Bad, Refused as Tested-as-Refused}
use Rattle.vim_reader.specs.Reading.{Reading, read, bad, vim_reading}

-- the table of tokens: they, and then empty places up to 128
abbrev pub table : List VimToken → VimSpec
table ts = record { tokens = ts ++ replicate (128 - length ts) no_token; len = length ts }

-- the tokens of a table
abbrev pub kept : VimSpec → List VimToken
kept spec = take spec.len spec.tokens

-- one more token
abbrev pub pushed : VimSpec → VimToken → VimSpec
pushed spec t = record { tokens = set spec.tokens spec.len t; len = spec.len + 1 }

-- a refusal, its place, and the empty table
abbrev pub refused_at : ℕ → ℕ → VimRead
refused_at n place = record { refusal = n; place = place; spec = table [] }

-- 17 with the place; then 8; else the table
unfoldable pub answered : Reading → VimRead
answered (read ts) = cond (leb (length ts) 128) (record { refusal = 0; place = 0; spec = table ts }) (refused_at 8 0)
answered (bad n) = refused_at 17 n

-- of a list that is not refused with 7
abbrev pub read_all : List ℕ → VimRead
read_all list = answered (vim_reading list)

-- the answer of `parse`: 7, then 17, then 8
abbrev pub read_of : List ℕ → VimRead
read_of list = cond (eqb (list_refusal list) 0) (read_all list) (refused_at 7 0)

-- the answer of `matches` by a table: 2, then 8
abbrev pub matched : ℕ → Bool → VimMatched
matched zero b = Is b
matched (suc n) b = Refused (suc n)

abbrev pub matches_of : VimSpec → ℕ → VimMatched
matches_of spec c = matched (lowest (char_refusal c) (table_refusal spec.len)) (in_vim (kept spec) c)

-- the answer of `is_vim_char`: 2, then what `parse` refuses
abbrev pub tested_by : ℕ → VimRead → VimTested
tested_by c r =
    cond (eqb r.refusal 0) (Tested-as-Is (in_vim (kept r.spec) c))
    (cond (eqb r.refusal 17) (Bad r.place) (Tested-as-Refused r.refusal))

abbrev pub tested_of : ℕ → List ℕ → VimTested
tested_of c list = cond (eqb (char_refusal c) 0) (tested_by c (read_of list)) (Tested-as-Refused (char_refusal c))
