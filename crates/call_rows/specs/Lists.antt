-- The replies of calls on a keyword list, by the number that stands for each. Cited by `call_rows::keyword_lists`. Assumes nothing.
use Rattle.std.specs.Prelude.{ℕ, List, cond, eqb}
use Rattle.chars.specs.Scalar.{is_scalar}
use Rattle.keywords.specs.Table.{parse_of, matches_of, keyword_char}
use Rattle.keywords.specs.declared.Parsed.{Parsed}
use Rattle.keywords.specs.declared.Matched.{Matched}
use Rattle.keywords.specs.declared.Matched.TheVariants.{Is, Refused as Matched-as-Refused}
use Rattle.call_bytes.specs.declared.Told.{Told}
use Rattle.call_bytes.specs.declared.Told.TheVariants.{Value, Refused}
use Rattle.call_bytes.specs.Reply.{Reply, told, bit}

-- the number and value of `matches` and `is_keyword_char`: 1 or 0, or a refusal's number
abbrev pub told_matched : Matched → Told
told_matched (Is b) = Value (bit b)
told_matched (Matched-as-Refused f) = Refused f

-- how many tokens of a list are kept
unfoldable pub token_count : List ℕ → Told
token_count list = cond (eqb (parse_of list).refusal 0) (Value (parse_of list).spec.len) (Refused (parse_of list).refusal)

-- whether the table of a parsed list holds x, or the number that the list was refused with
unfoldable pub by_table : Parsed → ℕ → Told
by_table p x = cond (eqb p.refusal 0) (told_matched (matches_of p.spec x)) (Refused p.refusal)

-- 2 comes before what parsing the list gives
unfoldable pub in_table : List ℕ → ℕ → Told
in_table list x = cond (is_scalar x) (by_table (parse_of list) x) (Refused 2)

-- what a number stands for; 100 where it stands for nothing
unfoldable pub keyword : ℕ → ℕ → List ℕ → Told
keyword op x list =
    cond (eqb op 0) (token_count list)
    (cond (eqb op 1) (in_table list x)
    (cond (eqb op 2) (told_matched (keyword_char x list))
    (Refused 100)))

abbrev pub keywords : ℕ → ℕ → List ℕ → Reply
keywords op x list = told (keyword op x list)
