-- Bytes written one after another into lent room, and numbers as text.
-- What the contracts of `print` and `session` cite. Definitions only; the laws are in `proofs/Laws.antt`. Assumes nothing.
use Rattle.std.specs.Prelude.{ℕ, zero, suc, ◌+◌, ◌/◌, ◌%◌, ◌≡◌, List, [], ◌∷◌, ◌++◌, cond, length, ltb}
use Rattle.std.proofs.lemmas.List.Edits.{sets}

-- at most k decimal digits of n, in ASCII, with no zero in front. k is never used up where n < 10 ^ k (`enough`); the equations of `decimal`
-- are `decimal_small` and `decimal_more`
unfoldable pub spell : ℕ → ℕ → List ℕ
spell zero n = []
spell (suc k) n = cond (ltb n 10) ((48 + n) ∷ []) (spell k (n / 10) ++ ((48 + n % 10) ∷ []))

-- a u32 has at most 10
unfoldable pub decimal : ℕ → List ℕ
decimal n = spell 10 n

-- s was written into out from index at on: the next index, and what stands in out then. The last follows
pub record Wrote {A : Type 0} (out : List A) (at : ℕ) (s : List A) (at' : ℕ) (out' : List A) : Type 0 where
  pub next : at' ≡ at + length s
  pub left : out' ≡ sets out at s
  pub size : length out' ≡ length out
