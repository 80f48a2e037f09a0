-- To the end of a run by the classes, and in the text. Assumes nothing.
use Rattle.lists.proofs.Kit.{◌≡◌, refl, ap, sym, ◌∙◌, List, Bool, true, false, ◌&&◌, ℕ, ◌+◌, ◌-◌, ◌<◌, arith, length, eqb, eq-eqb, ne_eqb, eqb-true, eqb-false, Option, Some, None}
use Rattle.lists.proofs.Kit.{lt-ltb}
use Rattle.text.specs.declared.Position.{Position}
use Rattle.text.specs.Offsets
use Rattle.word_kinds.specs.Places
use Rattle.word_loops.specs.Walks as first
use Rattle.word_loops.proofs.Counters.{forward_way}
use Rattle.word_places.specs.Places.{is_end, kind, text_end, forward, further}
use Rattle.word_places.specs.Walks.{walk, runs}
use Rattle.word_class_rows.specs.Rows.{row_of}
use Rattle.word_class_laws.specs.Determines.{Determines, pos, named, went}
use Rattle.word_class_laws.proofs.Walks.{Halts, Steps, walks}
use Rattle.word_class_laws.proofs.Runs.{end_is, kind_test, before_end, InRun, run_char, next_char, same_row, next_row_lem}

module _ {t : List ℕ} {tell : ℕ → ℕ} {c : List ℕ} {big : Bool} (d : Determines t tell c big) (k : ℕ) (real : eqb k 4 ≡ false) where
  -- a run goes on in its row as long as the next place is of its kind
  abbrev beyond : ℕ → Position → Bool
  beyond j q = eqb q.row (Offsets.row_of t j) && eqb (Places.kind_at t tell q) (named k)

  goes_on_lem : (j : ℕ) → InRun d k real j → first.goes_on t tell (named k) (pos t j) ≡ runs c big k j
  unfolding first.goes_on
  goes_on_lem j o = rw (d.on j o.inside) (go (is_end c (j + 1)) refl)
    where
      low : j < length t
      low = before_end d j o.inside (run_char d k real j o)

      off : (q : Position) → eqb q.row (Offsets.row_of t j) ≡ false → beyond j q ≡ false
      off q e = rw e

      over_end : (r : Option ℕ) → forward c j ≡ r → is_end c (j + 1) ≡ true → Places.further (went t r) (beyond j) false ≡ false
      over_end None w f = refl
      over_end (Some q) w f = off (pos t q) (ne_eqb (Offsets.row_of t q) (Offsets.row_of t j)
          (λ e. let by_next_row = next_row_lem d k real j q o.inside (run_char d k real j o) f w in omega (arith, e, by_next_row)))

      stops : is_end c (j + 1) ≡ true → runs c big k j ≡ false
      stops f =
          let four : kind c big (j + 1) ≡ 4 = eqb-true (kind c big (j + 1)) 4 (d.ends (j + 1) (omega (arith, low)) ∙ f) in
          rw (lt-ltb j (text_end c) (omega (arith, end_is d, low)), four) (ne_eqb 4 k (λ e. eqb-false k 4 real (sym e)))

      go : (b : Bool) → is_end c (j + 1) ≡ b → Places.further (went t (forward c j)) (beyond j) false ≡ runs c big k j
      go true f = over_end (forward c j) refl f ∙ sym (stops f)
      go false f = rw (
        next_char d k real j o.inside (run_char d k real j o) f,
        eq-eqb _ _ (same_row d k real j o.inside (run_char d k real j o)),
        kind_test d (j + 1) (omega (arith, low)) k,
        lt-ltb j (text_end c) (omega (arith, end_is d, low)),
      )

  pub on_run : (j : ℕ) → InRun d k real j → runs c big k j ≡ true → InRun d k real (j + 1)
  on_run j o e =
      let low = before_end d j o.inside (run_char d k real j o) in
      let e2 : eqb (kind c big (j + 1)) k ≡ true = rw (lt-ltb j (text_end c) (omega (arith, end_is d))) at e in
      record { inside = omega arith; is_kind = eqb-true _ _ e2 }

  pub run_steps : (j : ℕ) → InRun d k real j → runs c big k j ≡ true → Steps t (InRun d k real) (λ i. length t - i) (Places.step_forward t) j (Some (j + 1))
  run_steps j o e =
      let by_on_run = on_run j o e in
      let low = before_end d j o.inside (run_char d k real j o) in (
        d.on j o.inside ∙ ap (went t) (next_char d k real j o.inside (run_char d k real j o) (run_char d k real (j + 1) by_on_run)),
        by_on_run,
        omega arith,
      )

  pub run_same : (i : ℕ) → InRun d k real i →
      Halts t (InRun d k real) (runs c big k) (walk (runs c big k) (λ j. Some (j + 1)) (length c + 1) i) (first.run t tell (named k) (pos t i))
  run_same i o =
      walks t (InRun d k real) (runs c big k) (λ j. length t - j) (Places.step_forward t) (forward_way t) (first.goes_on t tell (named k)) (λ j. Some (j + 1))
      (λ j p. p.inside) goes_on_lem run_steps (length c + 1) i o (omega (arith, d.long))
