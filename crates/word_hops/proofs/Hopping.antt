-- One word on or back, by cases; and how far a walk back comes. Assumes nothing.
use Rattle.lists.proofs.Kit.{◌≡◌, refl, List, Bool, true, false, cond, ◌&&◌, ℕ, zero, suc, ◌≤◌, ◌<◌, arith, ltb, ltb-true}
use Rattle.word_places.specs.Places.{is_empty, text_end, backward}
use Rattle.word_places.specs.Walks.{walk, over}
use Rattle.word_ends.specs.declared.Halt.{Halt}
use Rattle.word_ends.specs.declared.Halt.TheVariants.{Onto, Stuck}
use Rattle.word_hops.specs.Hops.{last_empty, over_space, then_space, from_end}

-- behind a row's end
pub from_small : (c : List ℕ) (big : Bool) (i : ℕ) → big ≡ false → over_space c big i ≡ from_end c big i
from_small c false i e = refl
from_small c true i e = let never : ◌≡◌ {A = ℕ} 0 1 = cc in absurd (omega arith)

pub from_big : (c : List ℕ) (big : Bool) (i : ℕ) → big ≡ true → then_space c big (over c big 4 4 i) ≡ from_end c big i
from_big c true i e = refl
from_big c false i e = let never : ◌≡◌ {A = ℕ} 0 1 = cc in absurd (omega arith)

-- an empty last row that is not the only one
pub last_there : (c : List ℕ) → last_empty c ≡ true → 0 < text_end c
last_there c e = go (ltb 0 (text_end c)) (is_empty c (text_end c)) refl e
  where
    go : (a b : Bool) → ltb 0 (text_end c) ≡ a → (a && b) ≡ true → 0 < text_end c
    go true b q h = ltb-true 0 (text_end c) q
    go false b q h = let never : ◌≡◌ {A = ℕ} 0 1 = cc in absurd (omega arith)

-- a walk back ends at or before the place where it began
abbrev pub Below : ℕ → Halt ℕ → Type 0
Below i (Onto j) = j ≤ i
Below i (Stuck j) = j ≤ i

pub back_below : (test : ℕ → Bool) (n i : ℕ) → Below i (walk test backward n i)
unfolding walk
back_below test zero i = omega arith
back_below test (suc n) zero = go (test 0)
  where
    go : (b : Bool) → Below 0 (cond b (Stuck 0) (Onto 0))
    go true = omega arith
    go false = omega arith
back_below test (suc n) (suc i) = go (test (suc i)) (walk test backward n i) (back_below test n i)
  where
    go : (b : Bool) (h : Halt ℕ) → Below i h → Below (suc i) (cond b h (Onto (suc i)))
    go true (Onto j) l = omega arith
    go true (Stuck j) l = omega arith
    go false h l = omega arith

pub onto_below : (h : Halt ℕ) (i j : ℕ) → h ≡ Onto j → Below i h → j ≤ i
onto_below h i j e l = rw e at l
