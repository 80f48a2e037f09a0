-- A command row: a key, then optionally a space and 1 to 9 digits (missing: 0). Document 01, "The session".
-- What the contracts of `session_row` and `session` cite. Definitions only; the laws are in `proofs/`. Assumes nothing.
use Rattle.std.specs.Prelude.{ℕ, ◌+◌, ◌*◌, ◌-◌, ◌≤◌, ◌≡◌, List, [], ◌∷◌, Bool, true, cond, ◌&&◌, ltb, leb, length, take, drop, Option, Some, None}
use Rattle.lists.specs.Lists.{up_to, is_same}
use Rattle.lists.specs.Codes.{is_digit}

-- the bytes before the first space
abbrev pub key_part : List ℕ → List ℕ
key_part row = take (up_to 32 row) row

-- digits in base ten, after those whose value is n
unfoldable pub digits_from : ℕ → List ℕ → Option ℕ
digits_from n [] = Some n
digits_from n (x ∷ l) = cond (is_digit x) (digits_from (n * 10 + (x - 48)) l) None

-- 1 to 9 of them
unfoldable pub digits_of : List ℕ → Option ℕ
digits_of l = cond (leb 1 (length l) && leb (length l) 9) (digits_from 0 l) None

-- what follows the first space, or 0 where there is none
unfoldable pub count_in : List ℕ → Option ℕ
count_in row = cond (ltb (up_to 32 row) (length row)) (digits_of (drop (up_to 32 row + 1) row)) (Some 0)

-- r tells whether two lists are the same. The last follows
pub record Same (a b : List ℕ) (r : Bool) : Type 0 where
  pub is : r ≡ is_same a b
  pub equal : r ≡ true → a ≡ b

-- r is where the first x at or after `from` stands, or the length. The last follows
pub record Ends (s : List ℕ) (from x r : ℕ) : Type 0 where
  pub at : r ≡ from + up_to x (drop from s)
  pub after : from ≤ r
  pub within : r ≤ length s
