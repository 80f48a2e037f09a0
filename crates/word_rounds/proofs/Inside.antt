-- From a place of the text every round of the definitions leads to a place of the text, and so does a word motion.
-- Assumes nothing.
use Rattle.lists.proofs.Kit.{◌≡◌, refl, List, Bool, true, false, cond, ◌&&◌, ℕ, zero, suc, ◌-◌, ◌<◌, max, arith, Option, Some, None}
use Rattle.text.specs.Text.{row_count, content_rows}
use Rattle.text.specs.declared.Position.{Position}
use Rattle.text.proofs.Content.{content_near}
use Rattle.word_kinds.specs.Places.{Step, To, Nowhere}
use Rattle.word_loops.proofs.Within.{In, StepsTo}
use Rattle.word_rounds.specs.declared.Motion.{Motion}
use Rattle.word_rounds.specs.declared.Motion.TheVariants.{Fwd, Back, End, EndBack}
use Rattle.word_edges.specs.Words
use Rattle.word_edges.proofs.Inside.{next_start_in, prev_start_in, next_end_in, prev_end_in}
use Rattle.word_rounds.specs.Rounds.{Turn, On, Off, to_last, to_first, fold_at, jump_fwd, jump_back, turn, round_of, after, counted, word_motion}
use Rattle.word_rounds.proofs.Folding.{span_within}

-- where a round ends
abbrev pub Turns : List ℕ → Turn → Type 0
Turns t (On q) = In t q
Turns t (Off q) = In t q

module _ (t : List ℕ) where
  turn_in : (p : Position) (w : Step) → In t p → StepsTo t w → Turns t (turn p w)
  turn_in p (To q) i j = j
  turn_in p Nowhere i j = i

  -- rounds
  module _ (folds : List ℕ) where
    module _ (p : Position) (i : In t p) where
      span : (a b : ℕ) → fold_at t folds p ≡ Some (a, b) → (a < row_count t) × (b < row_count t)
      span a b e =
          let by_content_near = content_near t in
          span_within folds (row_count t) (content_rows t) p.row a b e i.in_row by_content_near.2 by_content_near.1

      pub jump_fwd_in : In t (jump_fwd t folds p)
      jump_fwd_in = go (fold_at t folds p) refl
        where
          go : (s : Option (ℕ × ℕ)) → fold_at t folds p ≡ s → In t (to_last t p s)
          go (Some (a, b)) e = record { in_row = (span a b e).1; in_col = omega arith }
          go None e = i

      pub jump_back_in : In t (jump_back t folds p)
      jump_back_in = go (fold_at t folds p) refl
        where
          go : (s : Option (ℕ × ℕ)) → fold_at t folds p ≡ s → In t (to_first p s)
          go (Some (a, b)) e = record { in_row = (span a b e).0; in_col = omega arith }
          go None e = i

    module _ (kind : ℕ → ℕ) (big : Bool) where
      pub round_in : (m : Motion) (stop : Bool) (p : Position) → In t p → Turns t (round_of t folds kind big m stop p)
      unfolding round_of
      round_in Fwd stop p i =
          let by_jump_fwd_in = jump_fwd_in p i in
          turn_in (jump_fwd t folds p) (Words.next_word_start t kind big (jump_fwd t folds p)) by_jump_fwd_in
          (next_start_in t kind (jump_fwd t folds p) by_jump_fwd_in big)
      round_in Back stop p i =
          let by_jump_back_in = jump_back_in p i in
          turn_in (jump_back t folds p) (Words.prev_word_start t kind (jump_back t folds p)) by_jump_back_in
          (prev_start_in t kind (jump_back t folds p) by_jump_back_in)
      round_in End stop p i = go (stop && Words.at_word_end t kind (jump_fwd t folds p))
        where
          go : (b : Bool) → Turns t (cond b (On (jump_fwd t folds p)) (turn (jump_fwd t folds p) (Words.next_word_end t kind (jump_fwd t folds p))))
          go true = jump_fwd_in p i
          go false =
              let by_jump_fwd_in = jump_fwd_in p i in
              turn_in (jump_fwd t folds p) (Words.next_word_end t kind (jump_fwd t folds p)) by_jump_fwd_in (next_end_in t kind (jump_fwd t folds p) by_jump_fwd_in)
      round_in EndBack stop p i = turn_in p (Words.prev_word_end t kind p) i (prev_end_in t kind p i)

      after_in : (r : Turn) (f : Position → Position) → Turns t r → ((q : Position) → In t q → In t (f q)) → In t (after r f)
      after_in (On q) f i h = h q i
      after_in (Off q) f i h = i

      counted_in : (m : Motion) (n : ℕ) (p : Position) → In t p → In t (counted (round_of t folds kind big m false) n p)
      unfolding counted
      counted_in m zero p i = i
      counted_in m (suc n) p i = after_in (round_of t folds kind big m false p) _ (round_in m false p i) (λ q j. counted_in m n q j)

      pub word_motion_in : (m : Motion) (stop : Bool) (count : ℕ) (p : Position) → In t p → In t (word_motion t folds kind big m stop count p)
      unfolding word_motion
      word_motion_in m stop count p i = after_in (round_of t folds kind big m stop p) _ (round_in m stop p i) (counted_in m (max count 1 - 1))
