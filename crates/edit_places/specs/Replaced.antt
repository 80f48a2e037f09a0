-- A part of a list replaced, and what that leaves of a lent buffer whose first places hold a text or folds. From document 02, #102.
-- Definitions only; the laws are in `proofs/Puts.antt`, `Parts.antt`, `Closing.antt` and `Replaces.antt`. Assumes nothing.
use Rattle.std.specs.Prelude.{ℕ, ◌+◌, ◌-◌, max, ◌≡◌, List, [], ◌++◌, length, take, drop, replicate}

-- t with what stands from a up to b replaced by c
unfoldable pub replaced : List ℕ → ℕ → ℕ → List ℕ → List ℕ
replaced t a b c = take a t ++ c ++ drop b t

-- n zeros
unfoldable pub zeros : ℕ → List ℕ
zeros n = replicate n 0

-- a buffer whose first n places held something, once it holds `new` instead: that, zeros in the places that it frees, and what lies behind both
unfoldable pub refilled : List ℕ → ℕ → List ℕ → List ℕ
refilled buf n new = new ++ zeros (n - length new) ++ drop (max n (length new)) buf

-- it does; the second follows from the first
pub record Refilled (buf : List ℕ) (n : ℕ) (new buf' : List ℕ) : Type 0 where
  pub left : buf' ≡ refilled buf n new
  pub size : length buf' ≡ length buf

-- c was written over buf from place at on; the second follows from the first
pub record Over (buf : List ℕ) (at : ℕ) (c buf' : List ℕ) : Type 0 where
  pub left : buf' ≡ replaced buf at (at + length c) c
  pub size : length buf' ≡ length buf

-- what stood from a up to b was deleted, and the freed places are zeros; the second follows from the first
pub record Deleted (buf : List ℕ) (len a b : ℕ) (buf' : List ℕ) : Type 0 where
  pub left : buf' ≡ replaced (take len buf) a b [] ++ zeros (b - a) ++ drop len buf
  pub size : length buf' ≡ length buf
