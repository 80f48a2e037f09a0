-- One word back by the classes is one in the text: `b` and `ge`, and where `e` with `stop` stays. Assumes nothing.
use Rattle.lists.proofs.Kit.{◌≡◌, refl, ap, sym, ◌∙◌, List, Bool, true, false, cond, ◌&&◌, not, ℕ, zero, suc, ◌+◌, ◌≤◌, ◌<◌, ℕ_discrete, arith, length, eqb, Some}
use Rattle.lists.proofs.Kit.{eq-eqb}
use Rattle.text.specs.Text.{position}
use Rattle.word_kinds.specs.Places
use Rattle.word_loops.specs.Walks as first
use Rattle.word_edges.specs.Words
use Rattle.word_places.specs.Places.{is_end, is_empty, kind, soft}
use Rattle.word_places.specs.Walks.{back}
use Rattle.word_ends.specs.declared.Halt.{Halt}
use Rattle.word_ends.specs.declared.Halt.TheVariants.{Onto, Stuck}
use Rattle.word_hops.specs.Hops
use Rattle.word_hops.proofs.Hopping.{back_below, Below}
use Rattle.word_class_laws.specs.Determines.{Determines, pos, named}
use Rattle.word_class_laws.proofs.Points.{named_same}
use Rattle.word_class_laws.proofs.Walks.{Halts}
use Rattle.word_class_laws.proofs.Runs.{Inside, class_of, before_end, back_same, clash}
use Rattle.word_class_laws.proofs.Hops.{Meets}

module _ {t : List ℕ} {tell : ℕ → ℕ} {c : List ℕ} {big : Bool} (d : Determines t tell c big) where
  abbrev over : ℕ → ℕ → Bool
  over k j = eqb (soft c big j) k && not (is_empty c j)

  -- a place that is no space is on a character
  pub no_space : (i : ℕ) → i ≤ length t → eqb (soft c big i) 2 ≡ false → is_end c i ≡ false
  no_space i h e = sym (d.ends i h) ∙ go (eqb (kind c big i) 4) refl
    where
      go : (b : Bool) → eqb (kind c big i) 4 ≡ b → b ≡ false
      go true w = clash (rw w) e
      go false w = refl

  -- the front of a run
  front_same : (q : ℕ) → q ≤ length t → is_end c q ≡ false → is_empty c q ≡ false → Meets t (Some (Hops.run_start c big q)) (Words.front_here t tell (pos t q))
  front_same q h e n = rw (class_of d q h) (go (back c big (soft c big q) q) (first.back t tell (named (soft c big q)) (pos t q))
      (back_same d (soft c big q) q h) (back_below (over (soft c big q)) (q + 1) q))
    where
      held : over (soft c big q) q ≡ true
      held = rw (eq-eqb (soft c big q) (soft c big q) refl, n)

      go : (a : Halt ℕ) (b : first.Halt) → Halts t (Inside d) (over (soft c big q)) a b → Below q a → Meets t (Some (Hops.behind a)) (Words.front_of t b)
      go (Stuck j) b w l = (ap (Words.front_of t) w.0, w.1)
      go (Onto j) b w l =
          let by_before_end = before_end d q h e in
          let less : j < q = apart (ℕ_discrete j q) in
          (ap (Words.front_of t) w.0 ∙ rw (d.next j (omega arith)), omega arith)
        where
          apart : Dec (j ≡ q) → j < q
          apart (yes z) = clash (rw z held) w.2
          apart (no z) = omega (arith, z)

  -- `b`
  start_from_lem : (i : ℕ) → i ≤ length t → Meets t (Hops.start_from c big (back c big 2 i)) (Words.front_from t tell (first.back t tell 0 (pos t i)))
  unfolding named
  start_from_lem i h = go (back c big 2 i) (first.back t tell 0 (pos t i)) (back_same d 2 i h)
    where
      go : (a : Halt ℕ) (b : first.Halt) → Halts t (Inside d) (over 2) a b → Meets t (Hops.start_from c big a) (Words.front_from t tell b)
      go (Stuck j) b w = (ap (Words.front_from t tell) w.0, w.1)
      go (Onto j) b w = rw (w.0, d.empties j w.1) (by (is_empty c j) refl)
        where
          char : is_empty c j ≡ false → is_end c j ≡ false
          char n = no_space j w.1 (pick (eqb (soft c big j) 2) (rw n at w.2))
            where
              pick : (b : Bool) → (b && true) ≡ false → b ≡ false
              pick true e = e
              pick false e = refl

          by : (b : Bool) → is_empty c j ≡ b →
              Meets t (cond b (Some j) (Some (Hops.run_start c big j))) (cond b (Places.To (pos t j)) (Words.front_here t tell (pos t j)))
          by true n = (refl, w.1)
          by false n = front_same j w.1 (char n) n

  pub front_of_lem : (i : ℕ) → i ≤ length t → Meets t (Hops.prev_start c big i) (Words.prev_word_start t tell (pos t i))
  unfolding Hops.prev_start Words.prev_word_start
  front_of_lem zero h = rw (d.back zero h)
  front_of_lem (suc i) h = rw (d.back (suc i) h) (start_from_lem i (omega arith))

  -- `ge`
  space_back : (i : ℕ) → i ≤ length t → Meets t (Hops.landed (back c big 2 i)) (Words.halted (first.back t tell 0 (pos t i)))
  unfolding named
  space_back i h = go (back c big 2 i) (first.back t tell 0 (pos t i)) (back_same d 2 i h)
    where
      go : (a : Halt ℕ) (b : first.Halt) → Halts t (Inside d) (over 2) a b → Meets t (Hops.landed a) (Words.halted b)
      go (Onto j) b w = (ap Words.halted w.0, w.1)
      go (Stuck j) b w = (ap Words.halted w.0, w.1)

  run_back : (k i : ℕ) → i ≤ length t → Meets t (Hops.back_from c big (back c big k i)) (Words.end_from t tell (first.back t tell (named k) (pos t i)))
  run_back k i h = go (back c big k i) (first.back t tell (named k) (pos t i)) (back_same d k i h)
    where
      go : (a : Halt ℕ) (b : first.Halt) → Halts t (Inside d) (over k) a b → Meets t (Hops.back_from c big a) (Words.end_from t tell b)
      go (Onto j) b w = rw w.0 (space_back j w.1)
      go (Stuck j) b w = (ap (Words.end_from t tell) w.0, w.1)

  space_test : (i : ℕ) → i ≤ length t → eqb (Places.cls t tell (pos t i)) 0 ≡ eqb (soft c big i) 2
  unfolding named
  space_test i h = ap (λ (x : ℕ). eqb x 0) (class_of d i h) ∙ named_same (soft c big i) 2

  pub ends_of : (i : ℕ) → i ≤ length t → Meets t (Hops.prev_end c big i) (Words.prev_word_end t tell (pos t i))
  unfolding Hops.prev_end Words.prev_word_end
  ends_of zero h = rw (d.back zero h)
  ends_of (suc i) h = rw (d.back (suc i) h, space_test (suc i) h, class_of d (suc i) h) (by (eqb (soft c big (suc i)) 2))
    where
      by : (b : Bool) → Meets t (cond b (Hops.landed (back c big 2 i)) (Hops.back_from c big (back c big (soft c big (suc i)) i)))
          (cond b (Words.halted (first.back t tell 0 (pos t i))) (Words.end_from t tell (first.back t tell (named (soft c big (suc i))) (pos t i))))
      by true = space_back i (omega arith)
      by false = run_back (soft c big (suc i)) i (omega arith)

  -- where `stop` holds
  pub stays : (i : ℕ) → i ≤ length t → Words.at_word_end t tell (pos t i) ≡ Hops.at_end c big i
  unfolding Words.at_word_end Hops.at_end
  stays i h = rw (space_test i h) (by (eqb (soft c big i) 2) refl)
    where
      by : (b : Bool) → eqb (soft c big i) 2 ≡ b →
          (not b && not (eqb (Places.cls t tell (position (pos t i).row ((pos t i).col + 1))) (Places.cls t tell (pos t i)))) ≡
          (not b && not (eqb (soft c big (i + 1)) (soft c big i)))
      by true e = refl
      by false e =
          let by_no_space = no_space i h e in
          let by_before_end = before_end d i h by_no_space in
          rw (d.beside i h by_no_space, class_of d (i + 1) (omega arith), class_of d i h, named_same (soft c big (i + 1)) (soft c big i))
