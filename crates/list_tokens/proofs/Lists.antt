-- Laws of lists that the other files of this folder share. Assumes nothing.
use Rattle.lists.proofs.Kit.{◌≡◌, sym, ◌∙◌, List, [], ◌∷◌, ◌++◌, map, append_assoc, ℕ, suc, ◌+◌, ◌-◌, ◌≤◌, ◌<◌, arith, length, get_or, take, drop, set, replicate}
use Rattle.lists.proofs.Kit.{length-map, length-append, get_or-take, length-take-le, set-append_seam}
use Rattle.lists.proofs.Lists.{drop_at_of as drop_at}

-- what stands at i among the first n, and what stands after it
pub drop_at_take : {X : Type 0} (l : List X) (n i : ℕ) (d : X) → i < n → n ≤ length l → drop i (take n l) ≡ get_or l i d ∷ drop (i + 1) (take n l)
drop_at_take l n i d h m = rw (drop_at (take n l) i d (omega (arith, length-take-le n l m)), get_or-take n l i d h)

-- what owning a struct tells of its array of structs: its length
pub places : {X Y : Type 0} (f : X → Y) (l : List X) (n : ℕ) → length (map f l) ≡ n → length l ≡ n
places f l n e = sym (length-map l f) ∙ e

-- a list that is filled up to n places with d, and one more in its first free place
pub fill_push : {X : Type 0} (n : ℕ) (d : X) (l : List X) (x : X) → length l < n →
    set (l ++ replicate (n - length l) d) (length l) x ≡ (l ++ (x ∷ [])) ++ replicate (n - length (l ++ (x ∷ []))) d
fill_push n d l x h =
    let size_is : length (l ++ (x ∷ [])) ≡ length l + 1 = length-append l (x ∷ []) in
    let difference_is : n - length l ≡ suc (n - (length l + 1)) = omega arith in
    rw (size_is, difference_is, set-append_seam, append_assoc)
