-- One word on or back: `next_word_start`, `prev_word_start`, `next_word_end`, `prev_word_end` and `at_word_end` of motions.rs, loop by loop. Definitions
-- only. Long, since the five functions of the source share their loops. Assumes nothing.
use Rattle.std.specs.Prelude.{ℕ, ◌+◌, List, Bool, cond, ◌&&◌, not, eqb}
use Rattle.text.specs.Text.{position}
use Rattle.text.specs.declared.Position.{Position}
use Rattle.word_kinds.specs.Places.{Step, To, Nowhere, space, end, kind_at, cls, on_empty_row, step_forward, inc, dec, end_of_buffer, further}
use Rattle.word_loops.specs.Walks.{Halt, Onto, Stuck, skip, leave, run, back}

-- the place where a loop ended, the end of the buffer for one that was stuck
abbrev pub or_end : List ℕ → Halt → Step
or_end t (Onto q) = To q
or_end t (Stuck q) = To (end_of_buffer t)

-- over white space from where a loop ended; for one that was stuck, what is given
abbrev pub then_space : List ℕ → (ℕ → ℕ) → Halt → Step → Step
then_space t kind (Onto q) stuck = or_end t (skip t kind space space q)
then_space t kind (Stuck q) stuck = stuck

-- from the first place behind a row's end: for the big words over all empty rows, then over white space
abbrev pub from_end : List ℕ → (ℕ → ℕ) → Bool → Position → Step
from_end t kind big q = cond big (then_space t kind (skip t kind end end q) Nowhere) (or_end t (skip t kind space space q))

unfoldable pub next_word_start : List ℕ → (ℕ → ℕ) → Bool → Position → Step
next_word_start t kind big p =
    cond (eqb (kind_at t kind p) end) (further (step_forward t p) (from_end t kind big) Nowhere)
    (then_space t kind (leave t kind (kind_at t kind p) p) (To (end_of_buffer t)))

-- the front of the word: back over its class, and one on
abbrev pub front_of : List ℕ → Halt → Step
front_of t (Onto q) = To (further (inc t q) (λ n. n) q)
front_of t (Stuck q) = To q

-- the front of the word that has the place; of the word that a walk back over white space came to, where an empty row is one
abbrev pub front_here : List ℕ → (ℕ → ℕ) → Position → Step
front_here t kind q = front_of t (back t kind (cls t kind q) q)

abbrev pub front_from : List ℕ → (ℕ → ℕ) → Halt → Step
front_from t kind (Onto q) = cond (on_empty_row t q) (To q) (front_here t kind q)
front_from t kind (Stuck q) = To q

unfoldable pub prev_word_start : List ℕ → (ℕ → ℕ) → Position → Step
prev_word_start t kind p = further (dec t p) (λ q. front_from t kind (back t kind space q)) Nowhere

-- the place where a loop ended
abbrev pub halted : Halt → Step
halted (Onto q) = To q
halted (Stuck q) = To q

-- back over white space from where a loop ended
abbrev pub end_from : List ℕ → (ℕ → ℕ) → Halt → Step
end_from t kind (Onto q) = halted (back t kind space q)
end_from t kind (Stuck q) = To q

unfoldable pub prev_word_end : List ℕ → (ℕ → ℕ) → Position → Step
prev_word_end t kind p =
    further (dec t p) (λ q. cond (eqb (cls t kind p) space) (halted (back t kind space q)) (end_from t kind (back t kind (cls t kind p) q))) Nowhere

-- the end of the word that has the place, and of the one that a walk over white space came to
abbrev pub run_here : List ℕ → (ℕ → ℕ) → Position → Step
run_here t kind q = halted (run t kind (kind_at t kind q) q)

abbrev pub run_from : List ℕ → (ℕ → ℕ) → Halt → Step
run_from t kind (Onto q) = run_here t kind q
run_from t kind (Stuck q) = To q

unfoldable pub next_word_end : List ℕ → (ℕ → ℕ) → Position → Step
next_word_end t kind p = further (step_forward t p) (λ q. run_from t kind (skip t kind space end q)) Nowhere

unfoldable pub at_word_end : List ℕ → (ℕ → ℕ) → Position → Bool
at_word_end t kind p = not (eqb (cls t kind p) space) && not (eqb (cls t kind (position p.row (p.col + 1))) (cls t kind p))
