-- The statement that the ways to ask for a keyword character agree. Definitions only; its proof is `agree` in `proofs/Agree.antt`.
-- Assumes nothing.
use Rattle.std.specs.Prelude.{ℕ, ◌≡◌, List, true}
use Rattle.chars.specs.Scalar.{is_scalar}
use Rattle.keywords.specs.declared.Matched.TheVariants.{Is}
use Rattle.list_tokens.specs.Tokens.{tokens, in_list}
use Rattle.keywords.specs.Table.{kept, parse_of, matches_of, keyword_char}
use Rattle.keywords.specs.Flat.{flat_of}

-- where `parse` accepts the list: its table has the list's tokens, all of them and in order, and `matches` by it, `is_keyword_char` by the
-- list and the flat form by its bounds say of a scalar value whether it is in the list's set
pub record Agrees (list : List ℕ) (c : ℕ) : Type 0 where
  pub read : kept (parse_of list).spec ≡ tokens list
  pub table : matches_of (parse_of list).spec c ≡ Is (in_list list c)
  pub direct : keyword_char c list ≡ Is (in_list list c)
  pub lent : flat_of (parse_of list).spec c ≡ in_list list c

abbrev pub Agree : Type 0
Agree = (list : List ℕ) (c : ℕ) → (parse_of list).refusal ≡ 0 → is_scalar c ≡ true → Agrees list c
