-- Walks over the classes are walks over the text: by the one law, whatever is tested and whichever way it goes. Assumes nothing.
use Rattle.lists.proofs.Kit.{◌≡◌, refl, sym, subst, ◌∙◌, List, Bool, true, false, cond, ℕ, zero, suc, ◌+◌, ◌≤◌, ◌<◌, arith, length, Option, Some, None}
use Rattle.text.specs.declared.Position.{Position}
use Rattle.text.specs.Offsets
use Rattle.text.proofs.Stands.{row_there}
use Rattle.word_kinds.specs.Places
use Rattle.word_loops.specs.Walks as first
use Rattle.word_loops.proofs.Within.{In}
use Rattle.word_loops.proofs.Counters.{OneWay, loop_turn}
use Rattle.word_places.specs.Places.{further}
use Rattle.word_places.specs.Walks.{walk}
use Rattle.word_ends.specs.declared.Halt.{Halt}
use Rattle.word_ends.specs.declared.Halt.TheVariants.{Onto, Stuck}
use Rattle.word_class_laws.specs.Determines.{pos}

-- the position of a place is one of the text
pub pos_in : (t : List ℕ) (i : ℕ) → i ≤ length t → In t (pos t i)
pos_in t i h = let by_row_there = row_there t i h in record { in_row = by_row_there.in_row; in_col = by_row_there.in_col }

-- where a walk over the text ended, by where one over the classes did: at a place of its own kind `ok`
abbrev pub Halts : List ℕ → (ℕ → Type 0) → (ℕ → Bool) → Halt ℕ → first.Halt → Type 0
Halts t ok test (Onto j) h = (h ≡ first.Onto (pos t j)) × ok j × (test j ≡ false)
Halts t ok test (Stuck j) h = (h ≡ first.Stuck (pos t j)) × ok j

-- a step of both, to a place with fewer places ahead
abbrev pub Steps : List ℕ → (ℕ → Type 0) → (ℕ → ℕ) → (Position → Places.Step) → ℕ → Option ℕ → Type 0
Steps t ok ahead go i (Some j) = (go (pos t i) ≡ Places.To (pos t j)) × ok j × (ahead j < ahead i)
Steps t ok ahead go i None = go (pos t i) ≡ Places.Nowhere

module _ (t : List ℕ) (ok : ℕ → Type 0) (test : ℕ → Bool) (ahead : ℕ → ℕ) (go : Position → Places.Step) (way : OneWay t go) (tests : Position → Bool)
    (step : ℕ → Option ℕ) (inside : (i : ℕ) → ok i → i ≤ length t) (same_test : (i : ℕ) → ok i → tests (pos t i) ≡ test i)
    (same_step : (i : ℕ) → ok i → test i ≡ true → Steps t ok ahead go i (step i)) where
  abbrev whole : Position → first.Halt
  whole p = first.walk tests go (length t + 1) p

  turn : (i : ℕ) → ok i → whole (pos t i) ≡ cond (test i) (Places.further (go (pos t i)) whole (first.Stuck (pos t i))) (first.Onto (pos t i))
  turn i o = loop_turn way tests (pos t i) (pos_in t i (inside i o)) ∙ rw (same_test i o)

  pub walks : (n i : ℕ) → ok i → ahead i < n → Halts t ok test (walk test step n i) (whole (pos t i))
  unfolding walk
  walks zero i o h = absurd (omega arith)
  walks (suc n) i o h = by (test i) refl (step i) (λ e. same_step i o e) (turn i o) (λ j k l. walks n j k (omega arith))
    where
      by : (b : Bool) → test i ≡ b → (r : Option ℕ) → (test i ≡ true → Steps t ok ahead go i r) →
          whole (pos t i) ≡ cond b (Places.further (go (pos t i)) whole (first.Stuck (pos t i))) (first.Onto (pos t i)) →
          ((j : ℕ) → ok j → ahead j < ahead i → Halts t ok test (walk test step n j) (whole (pos t j))) →
          Halts t ok test (cond b (further r (walk test step n) (Stuck i)) (Onto i)) (whole (pos t i))
      by false e r s w ih = (w, o, e)
      by true e (Some j) s w ih =
          let here = s e in
          subst (λ (x : first.Halt). Halts t ok test (walk test step n j) x) (sym (w ∙ rw here.0)) (ih j here.1 here.2)
      by true e None s w ih = (w ∙ rw (s e), o)
