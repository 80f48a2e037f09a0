-- The loops of the word motions: how one goes, and each of those in the source. motions.rs, "Internals".
-- Definitions only; the laws are in `proofs/Walking.antt` and `proofs/Counters.antt`. Assumes nothing.
use Rattle.std.specs.Prelude.{ℕ, zero, suc, ◌+◌, List, Bool, false, cond, ◌&&◌, ◌||◌, not, length, eqb}
use Rattle.text.specs.declared.Position.{Position}
use Rattle.word_kinds.specs.Places.{Step, kind_at, cls, on_empty_row, step_forward, dec, further}

-- how a loop of the Rust ends: on the first place that fails its test, or stuck on one that passes and has no step
pub data Halt : Type 0 where
  Onto : Position → Halt
  Stuck : Position → Halt

-- `while test(cur) { cur = step(cur) }`. The counter is never used up where each step goes one way: from a place of the text every counter above the text's
-- length leads to the same end (`counter_unused`), and a loop is its test, a step and the loop again (`loop_turn`)
unfoldable pub walk : (Position → Bool) → (Position → Step) → ℕ → Position → Halt
walk test step zero p = Stuck p
walk test step (suc n) p = cond (test p) (further (step p) (walk test step n) (Stuck p)) (Onto p)

-- on over the places of the kinds a and b
abbrev pub of_kinds : List ℕ → (ℕ → ℕ) → ℕ → ℕ → Position → Bool
of_kinds t kind a b q = eqb (kind_at t kind q) a || eqb (kind_at t kind q) b

abbrev pub skip : List ℕ → (ℕ → ℕ) → ℕ → ℕ → Position → Halt
skip t kind a b p = walk (of_kinds t kind a b) (step_forward t) (length t + 1) p

-- on over the places of a kind in a row: the row's change breaks the loop
abbrev pub in_row : List ℕ → (ℕ → ℕ) → ℕ → ℕ → Position → Bool
in_row t kind k row q = eqb (kind_at t kind q) k && eqb q.row row

abbrev pub leave : List ℕ → (ℕ → ℕ) → ℕ → Position → Halt
leave t kind k p = walk (in_row t kind k p.row) (step_forward t) (length t + 1) p

-- on as long as the next place has the kind and is in the same row
unfoldable pub goes_on : List ℕ → (ℕ → ℕ) → ℕ → Position → Bool
goes_on t kind k q = further (step_forward t q) (λ n. eqb n.row q.row && eqb (kind_at t kind n) k) false

abbrev pub run : List ℕ → (ℕ → ℕ) → ℕ → Position → Halt
run t kind k p = walk (goes_on t kind k) (step_forward t) (length t + 1) p

-- back over the places of a class; an empty row ends it (its class is white space, so no walk over another class meets the test)
abbrev pub of_class : List ℕ → (ℕ → ℕ) → ℕ → Position → Bool
of_class t kind k q = eqb (cls t kind q) k && not (on_empty_row t q)

abbrev pub back : List ℕ → (ℕ → ℕ) → ℕ → Position → Halt
back t kind k p = walk (of_class t kind k) (dec t) (length t + 1) p
