-- A counted motion is its round, gone through so many times. A round that stops leaves the place as it is, and so do all that would follow.
-- Definitions only; the law for m + n rounds is `rounds_add` of `proofs/Rounds.antt`. Assumes nothing.
use Rattle.std.specs.Prelude.{ℕ, zero, suc}

unfoldable pub rounds : {A : Type 0} → (A → A) → ℕ → A → A
rounds f zero p = p
rounds f (suc n) p = rounds f n (f p)
