-- Counts of a word motion add: so many rounds and then so many are as many as both, for each of the four motions. Assumes nothing.
use Rattle.lists.proofs.Kit.{◌≡◌, refl, sym, ◌∙◌, List, Bool, true, false, cond, ◌&&◌, ℕ, zero, suc, ◌+◌, ◌-◌, ◌<◌, max, arith}
use Rattle.text.specs.Text.{row_count}
use Rattle.text.specs.declared.Position.{Position}
use Rattle.folds.specs.Folds.{fold_refusal}
use Rattle.word_kinds.specs.Places.{Step, To, Nowhere}
use Rattle.word_edges.specs.Words.{next_word_start, prev_word_start, next_word_end, prev_word_end, at_word_end}
use Rattle.word_rounds.specs.Rounds.{Turn, On, Off, turn, jump_fwd, jump_back, round_of, after, counted, word_motion}
use Rattle.word_rounds.specs.declared.Motion.{Motion}
use Rattle.word_rounds.specs.declared.Motion.TheVariants.{Fwd, Back, End, EndBack}
use Rattle.word_rounds.proofs.Again.{jump_fwd_again, jump_back_again}
use Rattle.word_rounds.proofs.Counts.{counted_off, counted_add}

-- over folds that are accepted: they end inside the text, which the jumps lean on
module _ (t folds : List ℕ) (kind : ℕ → ℕ) (big : Bool) (good : fold_refusal folds (row_count t) ≡ 0) (m : Motion) where
  -- a round with `stop` off: a jump, and a word from there
  leap : Motion → Position → Position
  leap Fwd p = jump_fwd t folds p
  leap Back p = jump_back t folds p
  leap End p = jump_fwd t folds p
  leap EndBack p = p

  word : Motion → Position → Step
  word Fwd p = next_word_start t kind big p
  word Back p = prev_word_start t kind p
  word End p = next_word_end t kind p
  word EndBack p = prev_word_end t kind p

  leap_again : (n : Motion) (p : Position) → leap n (leap n p) ≡ leap n p
  unfolding leap
  leap_again Fwd p = jump_fwd_again t folds good p
  leap_again Back p = jump_back_again t folds good p
  leap_again End p = jump_fwd_again t folds good p
  leap_again EndBack p = refl

  round_leap : (n : Motion) (p : Position) → round_of t folds kind big n false p ≡ turn (leap n p) (word n (leap n p))
  unfolding round_of leap word
  round_leap Fwd p = refl
  round_leap Back p = refl
  round_leap End p = refl
  round_leap EndBack p = refl

  -- the round after a last one is last again
  last_again : (p q : Position) → round_of t folds kind big m false p ≡ Off q → round_of t folds kind big m false q ≡ Off q
  last_again p q e = go (word m (leap m p)) refl (sym (round_leap m p) ∙ e)
    where
      go : (w : Step) → word m (leap m p) ≡ w → turn (leap m p) w ≡ Off q → round_of t folds kind big m false q ≡ Off q
      go (To r) h f = let never : ◌≡◌ {A = ℕ} 0 1 = cc in absurd (omega arith)
      go Nowhere h f =
          let leap_is : leap m p ≡ q = cc in
          let round_is : round_of t folds kind big m false (leap m p) ≡ Off (leap m p) = rw (round_leap m (leap m p), leap_again m p, h) in
          rw leap_is at round_is

  -- `stop` holds no round that ends the motion
  last_either : (stop : Bool) (p q : Position) → round_of t folds kind big m stop p ≡ Off q → round_of t folds kind big m false p ≡ Off q
  unfolding round_of
  last_either stop p q = go m
    where
      pick : (b : Bool) (x : Position) (w : Turn) → cond b (On x) w ≡ Off q → w ≡ Off q
      pick true x w e = let never : ◌≡◌ {A = ℕ} 0 1 = cc in absurd (omega arith)
      pick false x w e = e

      go : (n : Motion) → round_of t folds kind big n stop p ≡ Off q → round_of t folds kind big n false p ≡ Off q
      go Fwd e = e
      go Back e = e
      go End e = pick (stop && at_word_end t kind (jump_fwd t folds p)) (jump_fwd t folds p) (turn (jump_fwd t folds p) (next_word_end t kind (jump_fwd t folds p))) e
      go EndBack e = e

  -- a motion with `stop` off is its rounds
  motion_rounds : (b : ℕ) (p : Position) → 0 < b → word_motion t folds kind big m false b p ≡ counted (round_of t folds kind big m false) b p
  unfolding word_motion counted
  motion_rounds zero p h = absurd (omega arith)
  motion_rounds (suc b) p h = let one : max (suc b) 1 - 1 ≡ b = omega arith in rw one

  -- `stop` in the first call alone
  pub word_counts_add : (stop : Bool) (a b : ℕ) (p : Position) → 0 < a → 0 < b →
      word_motion t folds kind big m stop (a + b) p ≡ word_motion t folds kind big m false b (word_motion t folds kind big m stop a p)
  unfolding word_motion
  word_counts_add stop a b p h k = go (round_of t folds kind big m stop p) refl ∙ sym (motion_rounds b _ k)
    where
      all : max (a + b) 1 - 1 ≡ (max a 1 - 1) + b
      all = omega arith

      go : (r : Turn) → round_of t folds kind big m stop p ≡ r → after r (counted (round_of t folds kind big m false) (max (a + b) 1 - 1)) ≡
          counted (round_of t folds kind big m false) b (after r (counted (round_of t folds kind big m false) (max a 1 - 1)))
      go (On q) e = rw all (counted_add (round_of t folds kind big m false) last_again (max a 1 - 1) b q)
      go (Off q) e = sym (counted_off (round_of t folds kind big m false) b q q k (last_again p q (last_either stop p q e)))
