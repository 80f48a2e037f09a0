-- What the contracts of `src/refusals.rt` cite: the refusals of keyword lists, 0 where there is none. Document 01, "Refusal numbers".
-- Definitions only. Assumes nothing.
use Rattle.std.specs.Prelude.{ℕ, List, cond, not, ◌&&◌, leb, eqb, length}
use Rattle.lists.specs.Lists.{any}
use Rattle.chars.specs.Scalar.{is_scalar, not_scalar}

-- 2: the character tested is no scalar value
abbrev pub char_refusal : ℕ → ℕ
char_refusal c = cond (is_scalar c) 0 2

-- 7: the list is over 1,024 code points, or holds a value that is no scalar value
abbrev pub list_refusal : List ℕ → ℕ
list_refusal list = cond (leb (length list) 1024 && not (any not_scalar list)) 0 7

-- 8: more than 128 tokens, or a table given with a length above 128
abbrev pub table_refusal : ℕ → ℕ
table_refusal n = cond (leb n 128) 0 8

-- the lowest number that applies of two, of which a is the lower
abbrev pub lowest : ℕ → ℕ → ℕ
lowest a b = cond (eqb a 0) b a
