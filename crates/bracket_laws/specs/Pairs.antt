-- What the partner of a bracket is, as demand 3 of the request words it, on the offsets of a text.
-- Definitions only; the laws are in `proofs/Pairs.antt`, and that the answers are partners in `proofs/Answers.antt`. Assumes nothing.
use Rattle.std.specs.Prelude.{◌≡◌, List, ℕ, ◌≤◌, ◌<◌, length, get_or}
use Rattle.bracket_kinds.specs.declared.Kind.{Kind}
use Rattle.bracket_kinds.specs.Kinds.{open_of, close_of}
use Rattle.bracket_walks.specs.Pairs.{count, stretch}

-- an open at i and a close of that kind at j, further on, with as many opens as closes of that kind from one to the other
pub record Balanced (k : Kind) (t : List ℕ) (i j : ℕ) : Type 0 where
  pub after : i < j
  pub inside : j < length t
  pub opens : get_or t i 0 ≡ open_of k
  pub closes : get_or t j 0 ≡ close_of k
  pub even : count (open_of k) (stretch t i j) ≡ count (close_of k) (stretch t i j)

-- the partner of the open at i is the close at j: an open looks forward
pub record Forward (k : Kind) (t : List ℕ) (i j : ℕ) : Type 0 where
  pub balanced : Balanced k t i j
  pub nearest : (m : ℕ) → Balanced k t i m → j ≤ m

-- the partner of the close at j is the open at i: a close looks back
pub record Backward (k : Kind) (t : List ℕ) (i j : ℕ) : Type 0 where
  pub balanced : Balanced k t i j
  pub nearest : (m : ℕ) → Balanced k t m j → m ≤ i

-- the partner of what stands at i is what stands at j
pub data IsPartner (t : List ℕ) (i j : ℕ) : Type 0 where
  forward : (k : Kind) → Forward k t i j → IsPartner t i j
  backward : (k : Kind) → Backward k t j i → IsPartner t i j

-- what stands at i has no partner: it is no bracket, or nothing in its direction balances it
pub data Alone (t : List ℕ) (i : ℕ) : Type 0 where
  no_bracket : ((k : Kind) → (get_or t i 0 ≡ open_of k → ⊥) × (get_or t i 0 ≡ close_of k → ⊥)) → Alone t i
  open_alone : (k : Kind) → get_or t i 0 ≡ open_of k → ((j : ℕ) → Balanced k t i j → ⊥) → Alone t i
  close_alone : (k : Kind) → get_or t i 0 ≡ close_of k → ((j : ℕ) → Balanced k t j i → ⊥) → Alone t i

-- how two pairs stand to each other, by an order of their places: none crosses the other, and none shares one place alone
pub data Stand {A : Type 0} (Before : A → A → Type 0) (i j i' j' : A) : Type 0 where
  same : i ≡ i' → j ≡ j' → Stand Before i j i' j'
  before : Before j i' → Stand Before i j i' j'
  behind : Before j' i → Stand Before i j i' j'
  around : Before i i' → Before j' j → Stand Before i j i' j'
  within : Before i' i → Before j j' → Stand Before i j i' j'
