-- One word on or back by the classes is one in the text: `w`, `b`, `e` and `ge`, each by the walks and the one law. Assumes nothing.
use Rattle.lists.proofs.Kit.{◌≡◌, refl, ap, sym, ◌∙◌, List, Bool, true, false, cond, ◌||◌, ℕ, ◌+◌, ◌-◌, ◌≤◌, arith, length, eqb, Option, Some, None}
use Rattle.text.specs.declared.Position.{Position}
use Rattle.word_kinds.specs.Places
use Rattle.word_loops.specs.Walks as first
use Rattle.word_edges.specs.Words
use Rattle.word_places.specs.Places.{is_end, kind, forward, further}
use Rattle.word_places.specs.Walks.{walk, over, runs, place, run_end}
use Rattle.word_ends.specs.declared.Halt.{Halt}
use Rattle.word_ends.specs.declared.Halt.TheVariants.{Onto, Stuck}
use Rattle.word_places.proofs.Walking.{forward_on}
use Rattle.word_hops.specs.Hops
use Rattle.word_hops.specs.Hops.{content_end}
use Rattle.word_class_laws.specs.Determines.{Determines, pos, named, went}
use Rattle.word_class_laws.proofs.Walks.{Halts}
use Rattle.word_class_laws.proofs.Runs.{Inside, end_is, kind_test, over_same, InRun, clash}
use Rattle.word_class_laws.proofs.Running.{run_same}
use Rattle.word_class_laws.proofs.Leaving.{leave_same}

-- where a hop of the first engine leads, by where one of the second does
abbrev pub Meets : List ℕ → Option ℕ → Places.Step → Type 0
Meets t (Some j) w = (w ≡ Places.To (pos t j)) × (j ≤ length t)
Meets t None w = w ≡ Places.Nowhere

module _ {t : List ℕ} {tell : ℕ → ℕ} {c : List ℕ} {big : Bool} (d : Determines t tell c big) where
  content_low : content_end c ≤ length t
  unfolding content_end
  content_low = go (Hops.last_empty c)
    where
      go : (b : Bool) → cond b (length c - 1 - 1) (length c - 1) ≤ length t
      go true = omega (arith, d.long)
      go false = omega (arith, d.long)

  at_content : Meets t (Some (content_end c)) (Places.To (Places.end_of_buffer t))
  at_content = (ap Places.To d.content, content_low)

  -- over spaces
  space_same : (i : ℕ) → i ≤ length t → Meets t (Hops.over_space c big i) (Words.or_end t (first.skip t tell 0 0 (pos t i)))
  unfolding named
  space_same i h = go (over c big 2 2 i) (first.skip t tell 0 0 (pos t i)) (over_same d 2 2 i h)
    where
      go : (a : Halt ℕ) (b : first.Halt) → Halts t (Inside d) (λ j. eqb (kind c big j) 2 || eqb (kind c big j) 2) a b → Meets t (Hops.or_end c a) (Words.or_end t b)
      go (Onto j) b w = (ap (Words.or_end t) w.0, w.1)
      go (Stuck j) b w = (ap (Words.or_end t) w.0 ∙ at_content.0, content_low)

  -- `w` behind a row's end
  from_same : (i : ℕ) → i ≤ length t → Meets t (Hops.from_end c big i) (Words.from_end t tell big (pos t i))
  unfolding named
  from_same i h =
      by big (Hops.then_space c big (over c big 4 4 i)) (Hops.over_space c big i) (Words.then_space t tell (first.skip t tell 3 3 (pos t i)) Places.Nowhere)
      (Words.or_end t (first.skip t tell 0 0 (pos t i))) (go (over c big 4 4 i) (first.skip t tell 3 3 (pos t i)) (over_same d 4 4 i h)) (space_same i h)
    where
      go : (a : Halt ℕ) (b : first.Halt) → Halts t (Inside d) (λ j. eqb (kind c big j) 4 || eqb (kind c big j) 4) a b →
          Meets t (Hops.then_space c big a) (Words.then_space t tell b Places.Nowhere)
      go (Onto j) b w = rw w.0 (space_same j w.1)
      go (Stuck j) b w = rw w.0

      by : (b : Bool) (x y : Option ℕ) (v w : Places.Step) → Meets t x v → Meets t y w → Meets t (cond b x y) (cond b v w)
      by true x y v w p q = p
      by false x y v w p q = q

  -- `w`
  step_on : (r : Option ℕ) (f : ℕ → Option ℕ) (g : Position → Places.Step) → ((j : ℕ) → r ≡ Some j → Meets t (f j) (g (pos t j))) →
      Meets t (further r f None) (Places.further (went t r) g Places.Nowhere)
  step_on (Some j) f g h = h j refl
  step_on None f g h = refl

  low : (i j : ℕ) → forward c i ≡ Some j → j ≤ length t
  low i j e = let by_forward_on = forward_on c i j e in omega (arith, by_forward_on.1, end_is d)

  real : (i : ℕ) → i ≤ length t → is_end c i ≡ false → eqb (kind c big i) 4 ≡ false
  real i h e = d.ends i h ∙ e

  run_here_lem : (i : ℕ) (h : i ≤ length t) (e : is_end c i ≡ false) → InRun d (kind c big i) (real i h e) i
  run_here_lem i h e = record { inside = h; is_kind = refl }

  char_same : (i : ℕ) → i ≤ length t → is_end c i ≡ false → Meets t (further (forward c (run_end c big i)) (Hops.over_space c big) (Some (content_end c)))
      (Words.then_space t tell (first.leave t tell (Places.kind_at t tell (pos t i)) (pos t i)) (Places.To (Places.end_of_buffer t)))
  char_same i h e = rw (d.kinds i h) (by (forward c (run_end c big i)) refl (leave_same d (kind c big i) (real i h e) i (run_here_lem i h e)))
    where
      by : (r : Option ℕ) → forward c (run_end c big i) ≡ r → {b : first.Halt} → b ≡ further r (λ q. first.Onto (pos t q)) (first.Stuck (pos t (run_end c big i))) →
          Meets t (further r (Hops.over_space c big) (Some (content_end c))) (Words.then_space t tell b (Places.To (Places.end_of_buffer t)))
      by (Some j) w e = rw e (space_same j (low (run_end c big i) j w))
      by None w e = rw e at_content

  pub start_same : (i : ℕ) → i ≤ length t → Meets t (Hops.next_start c big i) (Words.next_word_start t tell big (pos t i))
  unfolding Hops.next_start Words.next_word_start named
  start_same i h =
      let test_is : eqb (Places.kind_at t tell (pos t i)) 3 ≡ is_end c i = kind_test d i h 4 ∙ d.ends i h in
      rw (test_is, d.on i h) (by (is_end c i) refl)
    where
      by : (b : Bool) → is_end c i ≡ b → Meets t
          (cond b (further (forward c i) (Hops.from_end c big) None) (further (forward c (run_end c big i)) (Hops.over_space c big) (Some (content_end c))))
          (cond b (Places.further (went t (forward c i)) (Words.from_end t tell big) Places.Nowhere)
          (Words.then_space t tell (first.leave t tell (Places.kind_at t tell (pos t i)) (pos t i)) (Places.To (Places.end_of_buffer t))))
      by true e = step_on (forward c i) (Hops.from_end c big) (Words.from_end t tell big) (λ j w. from_same j (low i j w))
      by false e = char_same i h e

  -- `e`
  run_lands : (i : ℕ) → i ≤ length t → is_end c i ≡ false → Meets t (Some (run_end c big i)) (Words.run_here t tell (pos t i))
  run_lands i h e =
      rw (d.kinds i h) (go (walk (runs c big (kind c big i)) (λ j. Some (j + 1)) (length c + 1) i) (first.run t tell (named (kind c big i)) (pos t i))
      (run_same d (kind c big i) (real i h e) i (run_here_lem i h e)))
    where
      go : (a : Halt ℕ) (b : first.Halt) → Halts t (InRun d (kind c big i) (real i h e)) (runs c big (kind c big i)) a b → Meets t (Some (place a)) (Words.halted b)
      go (Onto j) b w = (ap Words.halted w.0, w.1.inside)
      go (Stuck j) b w = (ap Words.halted w.0, w.1.inside)

  -- a place of neither spaces nor row ends is on a character
  neither : (i : ℕ) → i ≤ length t → (eqb (kind c big i) 2 || eqb (kind c big i) 4) ≡ false → is_end c i ≡ false
  neither i h e = sym (d.ends i h) ∙ go (eqb (kind c big i) 2) (eqb (kind c big i) 4) e
    where
      go : (a b : Bool) → (a || b) ≡ false → b ≡ false
      go true b w = clash refl w
      go false b w = w

  end_from_same : (i : ℕ) → i ≤ length t → Meets t (Hops.end_from c big (over c big 2 4 i)) (Words.run_from t tell (first.skip t tell 0 3 (pos t i)))
  unfolding named
  end_from_same i h = go (over c big 2 4 i) (first.skip t tell 0 3 (pos t i)) (over_same d 2 4 i h)
    where
      go : (a : Halt ℕ) (b : first.Halt) → Halts t (Inside d) (λ j. eqb (kind c big j) 2 || eqb (kind c big j) 4) a b →
          Meets t (Hops.end_from c big a) (Words.run_from t tell b)
      go (Onto j) b w = rw w.0 (run_lands j w.1 (neither j w.1 w.2))
      go (Stuck j) b w = (ap (Words.run_from t tell) w.0, w.1)

  pub end_same : (i : ℕ) → i ≤ length t → Meets t (Hops.next_end c big i) (Words.next_word_end t tell (pos t i))
  unfolding Hops.next_end Words.next_word_end
  end_same i h = rw (d.on i h) (step_on (forward c i) (λ j. Hops.end_from c big (over c big 2 4 j))
      (λ q. Words.run_from t tell (first.skip t tell 0 3 q)) (λ j w. end_from_same j (low i j w)))
