-- Out of a run: from its last place one step on, where the first engine's loop ends. Assumes nothing.
use Rattle.lists.proofs.Kit.{◌≡◌, refl, sym, ◌∙◌, List, Bool, true, false, cond, ◌&&◌, ℕ, zero, suc, ◌+◌, ◌-◌, ◌≤◌, ◌<◌, arith, length, eqb, eq-eqb, ne_eqb, Option, Some, None}
use Rattle.lists.proofs.Kit.{lt-ltb}
use Rattle.text.specs.declared.Position.{Position}
use Rattle.text.specs.Offsets
use Rattle.word_kinds.specs.Places
use Rattle.word_loops.specs.Walks as first
use Rattle.word_loops.proofs.Counters.{loop_turn, forward_way}
use Rattle.word_places.specs.Places.{is_end, kind, text_end, forward, further}
use Rattle.word_places.specs.Walks.{walk, runs, place}
use Rattle.word_ends.specs.declared.Halt.TheVariants.{Onto}
use Rattle.word_places.proofs.Walking.{forward_on}
use Rattle.word_class_rows.specs.Rows.{row_of}
use Rattle.word_class_laws.specs.Determines.{Determines, pos, named, went}
use Rattle.word_class_laws.proofs.Walks.{pos_in}
use Rattle.word_class_laws.proofs.Runs.{end_is, kind_test, before_end, InRun, run_char, next_char, same_row, next_row_lem}
use Rattle.word_class_laws.proofs.Running.{on_run, run_steps}

module _ {t : List ℕ} {tell : ℕ → ℕ} {c : List ℕ} {big : Bool} (d : Determines t tell c big) (k : ℕ) (real : eqb k 4 ≡ false) where
  -- out of a run: from its last place one step on
  module _ (from : ℕ) where
    abbrev leaving : ℕ → first.Halt
    leaving e = further (forward c e) (λ q. first.Onto (pos t q)) (first.Stuck (pos t e))

    abbrev stays : Position → Bool
    stays q = eqb (Places.kind_at t tell q) (named k) && eqb q.row (Offsets.row_of t from)

    abbrev whole : Position → first.Halt
    whole q = first.walk stays (Places.step_forward t) (length t + 1) q

    turn : (j : ℕ) → j ≤ length t →
        whole (pos t j) ≡ cond (stays (pos t j)) (Places.further (Places.step_forward t (pos t j)) whole (first.Stuck (pos t j))) (first.Onto (pos t j))
    turn j h = loop_turn (forward_way t) stays (pos t j) (pos_in t j h)

    out : (j : ℕ) → InRun d k real j → Offsets.row_of t j ≡ Offsets.row_of t from → runs c big k j ≡ false → (r : Option ℕ) → forward c j ≡ r →
        Places.further (went t r) whole (first.Stuck (pos t j)) ≡ further r (λ q. first.Onto (pos t q)) (first.Stuck (pos t j))
    out j o w e None s = refl
    out j o w e (Some q) s = turn q low ∙ rw (fails (is_end c (j + 1)) refl)
      where
        low : q ≤ length t
        low = let by_forward_on = forward_on c j q s in omega (arith, by_forward_on.1, end_is d)

        both : (a b : Bool) → b ≡ false → (a && b) ≡ false
        both true b f = f
        both false b f = refl

        fails : (b : Bool) → is_end c (j + 1) ≡ b → stays (pos t q) ≡ false
        fails true f =
            let by_next_row = next_row_lem d k real j q o.inside (run_char d k real j o) f s in
            both (eqb (Places.kind_at t tell (pos t q)) (named k)) (eqb (Offsets.row_of t q) (Offsets.row_of t from))
            (ne_eqb (Offsets.row_of t q) (Offsets.row_of t from) (λ v. omega (arith, by_next_row, w, v)))
        fails false f =
            let by_before_end = before_end d j o.inside (run_char d k real j o) in
            let same : q ≡ j + 1 = cc (sym s ∙ next_char d k real j o.inside (run_char d k real j o) f) in
            let e2 : eqb (kind c big (j + 1)) k ≡ false = rw (lt-ltb j (text_end c) (omega (arith, end_is d))) at e in
            rw (kind_test d q low k, same, e2)

    leave_from : (n j : ℕ) → InRun d k real j → Offsets.row_of t j ≡ Offsets.row_of t from → length t - j < n →
        whole (pos t j) ≡ leaving (place (walk (runs c big k) (λ i. Some (i + 1)) n j))
    unfolding walk
    leave_from zero j o w h = absurd (omega arith)
    leave_from (suc n) j o w h = turn j o.inside ∙ rw (kind_test d j o.inside k, eq-eqb _ _ o.is_kind, eq-eqb _ _ w)
        (by (runs c big k j) refl (λ p v l. leave_from n (j + 1) p v l))
      where
        by : (b : Bool) → runs c big k j ≡ b → (InRun d k real (j + 1) → Offsets.row_of t (j + 1) ≡ Offsets.row_of t from → length t - (j + 1) < n →
            whole (pos t (j + 1)) ≡ leaving (place (walk (runs c big k) (λ i. Some (i + 1)) n (j + 1)))) →
            Places.further (Places.step_forward t (pos t j)) whole (first.Stuck (pos t j)) ≡
            leaving (place (cond b (walk (runs c big k) (λ i. Some (i + 1)) n (j + 1)) (Onto j)))
        by true e ih =
            let by_on_run = on_run d k real j o e in
            let by_before_end = before_end d j o.inside (run_char d k real j o) in
            rw (run_steps d k real j o e).0 (ih by_on_run (same_row d k real j o.inside (run_char d k real j o) ∙ w) (omega arith))
        by false e ih = rw (d.on j o.inside) (out j o w e (forward c j) refl)

  pub leave_same : (i : ℕ) → InRun d k real i → first.leave t tell (named k) (pos t i) ≡
      further (forward c (place (walk (runs c big k) (λ j. Some (j + 1)) (length c + 1) i))) (λ q. first.Onto (pos t q))
      (first.Stuck (pos t (place (walk (runs c big k) (λ j. Some (j + 1)) (length c + 1) i))))
  leave_same i o = leave_from i (length c + 1) i o refl (omega (arith, d.long))
