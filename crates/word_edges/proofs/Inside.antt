-- From a place of the text every word of the definitions leads to a place of the text. Assumes nothing.
use Rattle.lists.proofs.Kit.{List, Bool, true, false, cond, ℕ, eqb}
use Rattle.text.specs.declared.Position.{Position}
use Rattle.word_kinds.specs.Places.{Step, To, Nowhere, space, end, kind_at, cls, on_empty_row, step_forward, inc, dec, end_of_buffer, further}
use Rattle.word_loops.specs.Walks.{Halt, Onto, Stuck, skip, leave, run, back}
use Rattle.word_loops.proofs.Within.{In, StepsTo, Halts, end_in, forward_in, inc_in, dec_in, further_in, skip_in, back_in, leave_in, run_in}
use Rattle.word_edges.specs.Words

module _ (t : List ℕ) where
  or_end_in : (h : Halt) → Halts t h → StepsTo t (Words.or_end t h)
  or_end_in (Onto q) i = i
  or_end_in (Stuck q) i = end_in t

  halted_in : (h : Halt) → Halts t h → StepsTo t (Words.halted h)
  halted_in (Onto q) i = i
  halted_in (Stuck q) i = i

  -- words
  module _ (kind : ℕ → ℕ) where
    space_in : (h : Halt) (w : Step) → Halts t h → StepsTo t w → StepsTo t (Words.then_space t kind h w)
    space_in (Onto q) w i j = or_end_in (skip t kind space space q) (skip_in t kind space space q i)
    space_in (Stuck q) w i j = j

    from_end_in : (big : Bool) (p : Position) → In t p → StepsTo t (Words.from_end t kind big p)
    from_end_in true p i = space_in (skip t kind end end p) Nowhere (skip_in t kind end end p i) tt
    from_end_in false p i = or_end_in (skip t kind space space p) (skip_in t kind space space p i)

    front_in : (p : Position) → In t p → StepsTo t (Words.front_here t kind p)
    front_in p i = go (back t kind (cls t kind p) p) (back_in t kind (cls t kind p) p i)
      where
        pick : (w : Step) (q : Position) → StepsTo t w → In t q → In t (further w (λ n. n) q)
        pick (To n) q j k = j
        pick Nowhere q j k = k

        go : (h : Halt) → Halts t h → StepsTo t (Words.front_of t h)
        go (Onto q) j = pick (inc t q) q (inc_in t q j) j
        go (Stuck q) j = j

    front_from_in : (h : Halt) → Halts t h → StepsTo t (Words.front_from t kind h)
    front_from_in (Onto q) i = go (on_empty_row t q)
      where
        go : (b : Bool) → StepsTo t (cond b (To q) (Words.front_here t kind q))
        go true = i
        go false = front_in q i
    front_from_in (Stuck q) i = i

    end_from_in : (h : Halt) → Halts t h → StepsTo t (Words.end_from t kind h)
    end_from_in (Onto q) i = halted_in (back t kind space q) (back_in t kind space q i)
    end_from_in (Stuck q) i = i

    run_from_in : (h : Halt) → Halts t h → StepsTo t (Words.run_from t kind h)
    run_from_in (Onto q) i = halted_in (run t kind (kind_at t kind q) q) (run_in t kind (kind_at t kind q) q i)
    run_from_in (Stuck q) i = i

    module _ (p : Position) (i : In t p) where
      pub next_start_in : (big : Bool) → StepsTo t (Words.next_word_start t kind big p)
      unfolding Words.next_word_start
      next_start_in big = go (eqb (kind_at t kind p) end)
        where
          go : (b : Bool) → StepsTo t (cond b (further (step_forward t p) (Words.from_end t kind big) Nowhere)
              (Words.then_space t kind (leave t kind (kind_at t kind p) p) (To (end_of_buffer t))))
          go true = further_in t (step_forward t p) (Words.from_end t kind big) (forward_in t p i) (from_end_in big)
          go false = space_in (leave t kind (kind_at t kind p) p) (To (end_of_buffer t)) (leave_in t kind (kind_at t kind p) p i) (end_in t)

      pub prev_start_in : StepsTo t (Words.prev_word_start t kind p)
      unfolding Words.prev_word_start
      prev_start_in = further_in t (dec t p) _ (dec_in t p i) (λ q j. front_from_in (back t kind space q) (back_in t kind space q j))

      pub next_end_in : StepsTo t (Words.next_word_end t kind p)
      unfolding Words.next_word_end
      next_end_in = further_in t (step_forward t p) _ (forward_in t p i) (λ q j. run_from_in (skip t kind space end q) (skip_in t kind space end q j))

      pub prev_end_in : StepsTo t (Words.prev_word_end t kind p)
      unfolding Words.prev_word_end
      prev_end_in = further_in t (dec t p) _ (dec_in t p i) (λ q j. go (eqb (cls t kind p) space) q j)
        where
          go : (b : Bool) (q : Position) → In t q →
              StepsTo t (cond b (Words.halted (back t kind space q)) (Words.end_from t kind (back t kind (cls t kind p) q)))
          go true q j = halted_in (back t kind space q) (back_in t kind space q j)
          go false q j = end_from_in (back t kind (cls t kind p) q) (back_in t kind (cls t kind p) q j)
