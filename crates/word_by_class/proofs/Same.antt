-- The motions of the two engines are the same: each round by the hops and the jumps, and so each count. Assumes nothing.
use Rattle.lists.proofs.Kit.{◌≡◌, refl, ap, ◌∙◌, List, Bool, true, false, cond, ◌&&◌, ℕ, zero, suc, ◌-◌, ◌≤◌, max, length, Option, Some, None}
use Rattle.text.specs.declared.Position.{Position}
use Rattle.word_kinds.specs.Places
use Rattle.word_edges.specs.Words
use Rattle.word_rounds.specs.Rounds as first
use Rattle.word_rounds.specs.declared.Motion.{Motion}
use Rattle.word_rounds.specs.declared.Motion.TheVariants.{Fwd, Back, End, EndBack}
use Rattle.word_hops.specs.Hops.{next_start, prev_start, next_end, prev_end, at_end}
use Rattle.word_class_laws.specs.Determines.{Determines, pos}
use Rattle.word_class_laws.proofs.Hops.{Meets, start_same, end_same}
use Rattle.word_class_laws.proofs.Behind.{front_of_lem, ends_of, stays}
use Rattle.word_ends.specs.declared.Turn.{Turn}
use Rattle.word_ends.specs.declared.Turn.TheVariants.{On, Off}
use Rattle.word_by_class.specs.Rounds.{turn, end_turn, jump_fwd, jump_back, round_of, after, counted, motion}
use Rattle.word_by_class.proofs.Jumping.{fwd_same, back_same}

-- how a round of the first engine ends, by how one of the second does
abbrev pub Turns : List ℕ → Turn ℕ → first.Turn → Type 0
Turns t (On j) w = (w ≡ first.On (pos t j)) × (j ≤ length t)
Turns t (Off j) w = (w ≡ first.Off (pos t j)) × (j ≤ length t)

module _ {t : List ℕ} {tell : ℕ → ℕ} {c : List ℕ} {big : Bool} (d : Determines t tell c big) where
  turn_same : (from : ℕ) → from ≤ length t → (r : Option ℕ) (w : Places.Step) → Meets t r w → Turns t (turn from r) (first.turn (pos t from) w)
  turn_same from h (Some j) w m = (ap (first.turn (pos t from)) m.0, m.1)
  turn_same from h None w m = (ap (first.turn (pos t from)) m, h)

  end_turn_lem : (stop : Bool) (from : ℕ) → from ≤ length t → Turns t (end_turn c big stop from) (first.end_turn t tell stop (pos t from))
  end_turn_lem stop from h = rw (stays d from h) (go (stop && at_end c big from))
    where
      go : (b : Bool) → Turns t (cond b (On from) (turn from (next_end c big from)))
          (cond b (first.On (pos t from)) (first.turn (pos t from) (Words.next_word_end t tell (pos t from))))
      go true = (refl, h)
      go false = turn_same from h (next_end c big from) (Words.next_word_end t tell (pos t from)) (end_same d from h)

  module _ (folds : List ℕ) where
    pub round_same : (m : Motion) (stop : Bool) (i : ℕ) → i ≤ length t →
        Turns t (round_of c folds big m stop i) (first.round_of t folds tell big m stop (pos t i))
    unfolding round_of first.round_of
    round_same Fwd stop i h =
        let by_fwd_same = fwd_same d folds i h in
        rw by_fwd_same.0 (turn_same (jump_fwd c folds i) by_fwd_same.1 (next_start c big (jump_fwd c folds i)) _ (start_same d _ by_fwd_same.1))
    round_same Back stop i h =
        let by_back_same = back_same d folds i h in
        rw by_back_same.0 (turn_same (jump_back c folds i) by_back_same.1 (prev_start c big (jump_back c folds i)) _ (front_of_lem d _ by_back_same.1))
    round_same End stop i h = let by_fwd_same = fwd_same d folds i h in rw by_fwd_same.0 (end_turn_lem stop (jump_fwd c folds i) by_fwd_same.1)
    round_same EndBack stop i h = turn_same i h (prev_end c big i) (Words.prev_word_end t tell (pos t i)) (ends_of d i h)

    after_same : (a : Turn ℕ) (b : first.Turn) (f : ℕ → ℕ) (g : Position → Position) → Turns t a b →
        ((j : ℕ) → j ≤ length t → (g (pos t j) ≡ pos t (f j)) × (f j ≤ length t)) → (first.after b g ≡ pos t (after a f)) × (after a f ≤ length t)
    after_same (On j) b f g w k = let here = k j w.1 in (ap (λ (x : first.Turn). first.after x g) w.0 ∙ here.0, here.1)
    after_same (Off j) b f g w k = (ap (λ (x : first.Turn). first.after x g) w.0, w.1)

    counted_same : (m : Motion) (n i : ℕ) → i ≤ length t →
        (first.counted (first.round_of t folds tell big m false) n (pos t i) ≡ pos t (counted (round_of c folds big m false) n i))
        × (counted (round_of c folds big m false) n i ≤ length t)
    unfolding counted first.counted
    counted_same m zero i h = (refl, h)
    counted_same m (suc n) i h =
        after_same (round_of c folds big m false i) (first.round_of t folds tell big m false (pos t i)) (counted (round_of c folds big m false) n)
        (first.counted (first.round_of t folds tell big m false) n) (round_same m false i h) (λ j l. counted_same m n j l)

    -- the motion by the classes is the first engine's, and stays in the text
    pub motion_same : (m : Motion) (stop : Bool) (count i : ℕ) → i ≤ length t →
        (first.word_motion t folds tell big m stop count (pos t i) ≡ pos t (motion c folds big m stop count i)) × (motion c folds big m stop count i ≤ length t)
    unfolding motion first.word_motion
    motion_same m stop count i h =
        after_same (round_of c folds big m stop i) (first.round_of t folds tell big m stop (pos t i)) (counted (round_of c folds big m false) (max count 1 - 1))
        (first.counted (first.round_of t folds tell big m false) (max count 1 - 1)) (round_same m stop i h) (λ j l. counted_same m (max count 1 - 1) j l)
