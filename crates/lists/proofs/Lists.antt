-- A law of lists at an index, as every loop reads them. Assumes nothing.
use Rattle.lists.proofs.Kit.{◌≡◌, List, ◌∷◌, ℕ, ◌+◌, ◌<◌, add-one, length, get_or, drop, drop-cons}

-- what stands at i, and what stands after it
pub drop_at_of : {X : Type 0} (l : List X) (i : ℕ) (d : X) → i < length l → drop i l ≡ get_or l i d ∷ drop (i + 1) l
drop_at_of l i d h = rw (add-one, drop-cons l i d)

pub drop_at : (l : List ℕ) (i : ℕ) → i < length l → drop i l ≡ get_or l i 0 ∷ drop (i + 1) l
drop_at l i h = drop_at_of l i 0 h
