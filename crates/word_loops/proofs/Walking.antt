-- Walks: where a loop of the code stands in `walk`, with a counter that is never used up. One law for either direction: a step that leads on leaves
-- fewer places ahead. Assumes nothing.
use Rattle.lists.proofs.Kit.{◌≡◌, refl, sym, ◌∙◌, List, Bool, true, false, ℕ, zero, suc, ◌+◌, ◌-◌, ◌≤◌, ◌<◌, arith, length, Option, Some, None}
use Rattle.text.specs.declared.Position.{Position}
use Rattle.word_kinds.specs.declared.Spot.{Spot}
use Rattle.word_ends.specs.declared.Halt.TheVariants as halt
use Rattle.word_kinds.specs.Spots.{place_of, IsSpot, Steps}
use Rattle.word_kinds.proofs.Telling.{tells_as}
use Rattle.word_loops.specs.Halts.{Stops}
use Rattle.word_kinds.specs.Places.{Step, To, Nowhere}
use Rattle.word_loops.specs.Walks.{Onto, Stuck, walk}

-- one turn
module _ (test : Position → Bool) (go : Position → Step) where
  turn_on : (left : ℕ) (p q : Position) → 0 < left → test p ≡ true → To q ≡ go p → walk test go left p ≡ walk test go (left - 1) q
  unfolding walk
  turn_on zero p q h e s = absurd (omega arith)
  turn_on (suc n) p q h e s =
      let one : suc n - 1 ≡ n = omega arith in
      rw (e, ← s, one)

  turn_off : (left : ℕ) (p : Position) → 0 < left → test p ≡ false → walk test go left p ≡ Onto p
  unfolding walk
  turn_off zero p h e = absurd (omega arith)
  turn_off (suc n) p h e = rw e

  turn_stuck : (left : ℕ) (p : Position) → 0 < left → test p ≡ true → Nowhere ≡ go p → walk test go left p ≡ Stuck p
  unfolding walk
  turn_stuck zero p h e s = absurd (omega arith)
  turn_stuck (suc n) p h e s = rw (e, ← s)

-- the walk that began at `from` stands at a spot of the text, with more turns left than the m places ahead
pub record Walking (t : List ℕ) (test : Position → Bool) (go : Position → Step) (from : Spot) (m : ℕ) (cur : Spot) : Type 0 where
  pub spot : IsSpot t cur
  pub left : ℕ
  pub enough : m < left
  pub same : walk test go (length t + 1) (place_of t from) ≡ walk test go left (place_of t cur)

module _ {t : List ℕ} {test : Position → Bool} {go : Position → Step} where
  pub walking_start : {p : Spot} {m : ℕ} → IsSpot t p → m ≤ length t → Walking t test go p m p
  walking_start i h = record { spot = i; left = length t + 1; enough = omega arith; same = refl }

  module _ {from : Spot} {m : ℕ} {cur : Spot} (w : Walking t test go from m cur) where
    some_left : 0 < w.left
    some_left = omega (arith, w.enough)

    -- on to the spot that a step led to, where fewer places are ahead
    pub walking_on : {low high k : ℕ} {r : Option Spot} {q : Spot} → test (place_of t cur) ≡ true → Steps t low high r (go (place_of t cur)) →
        r ≡ Some q → k < m → Walking t test go from k q
    walking_on {q = q} e told is h =
        let found = tells_as told is in
        record {
          spot = found.inside.spot;
          left = w.left - 1;
          enough = omega (arith, w.enough);
          same = w.same ∙ turn_on test go w.left (place_of t cur) (place_of t q) some_left e found.place;
        }

    pub walking_off : test (place_of t cur) ≡ false → Stops t (halt.Onto cur) (walk test go (length t + 1) (place_of t from))
    walking_off e = record { place = sym (w.same ∙ turn_off test go w.left (place_of t cur) some_left e); inside = w.spot }

    pub walking_stuck : {low high : ℕ} {r : Option Spot} → test (place_of t cur) ≡ true → Steps t low high r (go (place_of t cur)) →
        r ≡ None → Stops t (halt.Stuck cur) (walk test go (length t + 1) (place_of t from))
    walking_stuck e told is =
        record { place = sym (w.same ∙ turn_stuck test go w.left (place_of t cur) some_left e (tells_as told is).place); inside = w.spot }

-- places ahead after a step on, and after a step back
module _ {t : List ℕ} {w : Step} {r : Option Spot} {q : Spot} where
  pub less_ahead : (at : ℕ) → Steps t (at + 1) (length t + 1) r w → r ≡ Some q → length t - q.at < length t - at
  less_ahead at told is = let found = (tells_as told is).inside in omega (arith, found.from, found.below)

  pub less_behind : {at : ℕ} → Steps t 0 at r w → r ≡ Some q → q.at < at
  less_behind told is = (tells_as told is).inside.below
