-- What a refilled buffer holds in its first places. On plain lists. Assumes nothing.
use Rattle.lists.proofs.Kit.{◌≡◌, ap, ◌∙◌, List, ◌++◌, append_assoc, ℕ, ◌-◌, ◌≤◌, max, arith, length, take, drop, length-append, take_at}
use Rattle.edit_places.specs.Replaced.{zeros, refilled}

module _ (buf : List ℕ) (n : ℕ) (new : List ℕ) where
  pub refilled_holds : (m : ℕ) → length new ≡ m → take m (refilled buf n new) ≡ new
  unfolding refilled
  refilled_holds m e = ap (take m) (append_assoc new (zeros (n - length new)) (drop (max n (length new)) buf))
      ∙ take_at new (zeros (n - length new) ++ drop (max n (length new)) buf) m e

  pub refilled_room : length new ≤ length (refilled buf n new)
  unfolding refilled
  refilled_room = omega (
    arith,
    length-append (new ++ zeros (n - length new)) (drop (max n (length new)) buf),
    length-append new (zeros (n - length new)),
  )
