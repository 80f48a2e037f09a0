-- The positions of a counted motion stand in the text, and the last of them is where the motion leads to. Assumes nothing.
use Rattle.lists.proofs.Kit.{◌≡◌, refl, ap, List, [], ◌∷◌, Bool, true, false, cond, ◌&&◌, ℕ, zero, suc, ◌-◌, ◌<◌, max, arith}
use Rattle.word_kinds.specs.Places.{Step, To, Nowhere}
use Rattle.word_loops.proofs.Within
use Rattle.word_edges.specs.Words
use Rattle.word_rounds.specs.declared.Motion.{Motion}
use Rattle.word_rounds.specs.declared.Motion.TheVariants.{Fwd, Back, End, EndBack}
use Rattle.word_rounds.specs.Rounds.{Turn, On, Off, jump_fwd, jump_back, turn, round_of, after, counted, word_motion}
use Rattle.word_rounds.proofs.Inside.{Turns, jump_fwd_in, jump_back_in, round_in}
use Rattle.lists.specs.Rounds.{rounds}
use Rattle.text.specs.declared.Position.{Position}
use Rattle.promises.specs.Positions.{In, AllIn}
use Rattle.promises.specs.Trails.{trail, origin, at_place, found, counted_writes, word_writes}
use Rattle.promises.specs.Writes.{ends, last_of}

-- rounds
module _ {A : Type 0} (show : A → Position) (f : A → A) where
  pub trail_ends : (n : ℕ) (p : A) → ends (show p) (trail show f n p) ≡ show (rounds f n p)
  unfolding ends trail rounds
  trail_ends zero p = refl
  trail_ends (suc n) p = trail_ends n (f p)

  pub trail_last : (n : ℕ) (p : A) → 0 < n → last_of (trail show f n p) ≡ show (rounds f n p) ∷ []
  unfolding trail rounds
  trail_last zero p h = absurd (omega arith)
  trail_last (suc n) p h = ap (λ (q : Position). q ∷ []) (trail_ends n (f p))

  pub trail_in : (t : List ℕ) → ((p : A) → In t (show p) → In t (show (f p))) → (n : ℕ) (p : A) → In t (show p) → AllIn t (trail show f n p)
  unfolding trail
  trail_in t h zero p i = tt
  trail_in t h (suc n) p i = (h p i, trail_in t h n (f p) (h p i))

-- a round of a word motion, and those after it
module _ (from : Position) (rest : Position → List Position) where
  found_ends : (r : Turn) (f : Position → Position) → ((q : Position) → r ≡ Off q → from ≡ q) → ((q : Position) → ends (at_place q) (rest q) ≡ at_place (f q)) →
      ends (at_place from) (found r rest) ≡ at_place (after r f)
  unfolding ends
  found_ends (On q) f off h = h q
  found_ends (Off q) f off h = ap at_place (off q refl)

  found_in_lem : (t : List ℕ) (r : Turn) → Turns t r → ((q : Position) → Within.In t q → AllIn t (rest q)) → AllIn t (found r rest)
  found_in_lem t (On q) i h = (record { in_row = i.in_row; in_col = i.in_col }, h q i)
  found_in_lem t (Off q) i h = tt

module _ (from : Position → Position) (round : Position → Turn) where
  counted_ends : ((p q : Position) → round p ≡ Off q → from p ≡ q) → (n : ℕ) (p : Position) →
      ends (at_place p) (counted_writes from round n p) ≡ at_place (counted round n p)
  unfolding ends counted_writes counted
  counted_ends off zero p = refl
  counted_ends off (suc n) p = found_ends (from p) (counted_writes from round n) (round p) (counted round n) (off p) (counted_ends off n)

  counted_in : (t : List ℕ) → ((p : Position) → Within.In t p → Within.In t (from p)) → ((p : Position) → Within.In t p → Turns t (round p)) →
      (n : ℕ) (p : Position) → Within.In t p → AllIn t (counted_writes from round n p)
  unfolding counted_writes
  counted_in t a b zero p i = tt
  counted_in t a b (suc n) p i =
      let here = a p i in (
        record { in_row = here.in_row; in_col = here.in_col },
        found_in_lem (from p) (counted_writes from round n) t (round p) (b p i) (counted_in t a b n),
      )

-- a round that finds no word ends where it began, out of the fold
turn_off : (from : Position) (w : Step) (q : Position) → turn from w ≡ Off q → from ≡ q
turn_off from (To x) q e = let never : ◌≡◌ {A = ℕ} 0 1 = cc in absurd (omega arith)
turn_off from Nowhere q e = cc

module _ (t folds : List ℕ) where
  origin_in : (m : Motion) (p : Position) → Within.In t p → Within.In t (origin t folds m p)
  origin_in Fwd p i = jump_fwd_in t folds p i
  origin_in Back p i = jump_back_in t folds p i
  origin_in End p i = jump_fwd_in t folds p i
  origin_in EndBack p i = i

  module _ (kind : ℕ → ℕ) (big : Bool) where
    round_off : (m : Motion) (stop : Bool) (p q : Position) → round_of t folds kind big m stop p ≡ Off q → origin t folds m p ≡ q
    unfolding round_of
    round_off Fwd stop p q e = turn_off (jump_fwd t folds p) (Words.next_word_start t kind big (jump_fwd t folds p)) q e
    round_off Back stop p q e = turn_off (jump_back t folds p) (Words.prev_word_start t kind (jump_back t folds p)) q e
    round_off End stop p q e = go (stop && Words.at_word_end t kind (jump_fwd t folds p)) e
      where
        go : (b : Bool) → cond b (On (jump_fwd t folds p)) (turn (jump_fwd t folds p) (Words.next_word_end t kind (jump_fwd t folds p))) ≡ Off q →
            jump_fwd t folds p ≡ q
        go true z = let never : ◌≡◌ {A = ℕ} 0 1 = cc in absurd (omega arith)
        go false z = turn_off (jump_fwd t folds p) (Words.next_word_end t kind (jump_fwd t folds p)) q z
    round_off EndBack stop p q e = turn_off p (Words.prev_word_end t kind p) q e

    pub word_last : (m : Motion) (stop : Bool) (n : ℕ) (p : Position) →
        last_of (word_writes t folds kind big m stop n p) ≡ at_place (word_motion t folds kind big m stop n p) ∷ []
    unfolding word_writes word_motion
    word_last m stop n p = ap (λ (q : Position). q ∷ []) (found_ends (origin t folds m p) _ (round_of t folds kind big m stop p) _ (round_off m stop p)
        (counted_ends (origin t folds m) (round_of t folds kind big m false) (round_off m false) (max n 1 - 1)))

    pub word_in : (m : Motion) (stop : Bool) (n : ℕ) (p : Position) → Within.In t p → AllIn t (word_writes t folds kind big m stop n p)
    unfolding word_writes
    word_in m stop n p i =
        let by_origin_in = origin_in m p i in (
          record { in_row = by_origin_in.in_row; in_col = by_origin_in.in_col },
          found_in_lem (origin t folds m p) _ t (round_of t folds kind big m stop p) (round_in t folds kind big m stop p i)
              (counted_in (origin t folds m) (round_of t folds kind big m false) t (origin_in m) (round_in t folds kind big m false) (max n 1 - 1)),
        )
