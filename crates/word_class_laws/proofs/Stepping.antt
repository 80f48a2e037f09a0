-- The steps by the classes, by what stands at the place: one on, one back, and the end of the last row with content. Assumes nothing.
use Rattle.lists.proofs.Kit.{◌≡◌, refl, ap, sym, ◌∙◌, List, Bool, true, false, cond, ℕ, zero, suc, ◌+◌, ◌-◌, ◌≤◌, ◌<◌, dec_lt, ℕ_discrete, arith, length, get_or, Some, None}
use Rattle.lists.proofs.Kit.{ltb, eq-eqb, ne_eqb, lt-ltb, le-ltb}
use Rattle.text.specs.Text.{position}
use Rattle.text.specs.Offsets
use Rattle.text.specs.declared.Position.{Position}
use Rattle.word_kinds.specs.declared.Spot.{Spot}
use Rattle.word_kinds.specs.Spots.{IsSpot, Lands, Reaches, Ends}
use Rattle.word_kinds.specs.Places
use Rattle.word_kinds.proofs.Ahead.{end_forward, nl_forward, last_forward, row_forward, char_forward, char_spot, char_col_lem, char_inc, nl_inc}
use Rattle.word_kinds.proofs.Onto.{next_yes, next_no}
use Rattle.word_kinds.proofs.Back.{back_none, back_row, back_char, end_nl, end_char}
use Rattle.word_classes.specs.Classes.{classes_of}
use Rattle.word_places.specs.Places.{is_end, text_end, forward, backward}
use Rattle.word_places.proofs.Walking.{forward_none, forward_over, forward_next}
use Rattle.word_hops.specs.Hops.{last_empty, content_end}
use Rattle.word_class_laws.specs.Determines.{pos, went}
use Rattle.word_class_laws.proofs.Points.{spot_of, spot_pos}
use Rattle.word_class_laws.proofs.Determined.{Stand, at_last, at_break, at_char, stand, long, last_ends, break_ends, char_ends, last_fresh}

module _ (word : ℕ → Bool) (t : List ℕ) where
  abbrev c : List ℕ
  c = classes_of word t

  end_is : text_end c ≡ length t
  end_is = omega (arith, long word t)

  -- a place before the text's end, as a step
  near : (j : ℕ) → j < length t → cond (ltb j (text_end c)) (Some j) None ≡ Some j
  near j h = rw (lt-ltb j (text_end c) (omega (arith, end_is)))

  far : (j : ℕ) → length t ≤ j → cond (ltb j (text_end c)) (Some j) None ≡ None
  far j h = rw (le-ltb j (text_end c) (omega (arith, end_is)))

  -- what leads to a spot of the text leads to the place of its offset
  goes : {q : Spot} {w : Places.Step} → Reaches t (Some q) w → w ≡ Places.To (pos t q.at)
  goes {q} told = sym told.place ∙ ap Places.To (spot_pos t q told.inside)

  lands : {q : Spot} {p : Position} → Lands t q p → p ≡ pos t q.at
  lands {q} told = sym told.place ∙ spot_pos t q told.inside

  module _ (i : ℕ) (h : i ≤ length t) where
    abbrev spot : Spot
    spot = record { row = Offsets.row_of t i; at = i }

    -- the next row behind the separator at j
    behind : (j : ℕ) → i ≤ j → (s : IsSpot t (record { row = Offsets.row_of t i; at = j })) → j < length t → get_or t j 0 ≡ 10 →
        Places.next_row t (Offsets.row_of t i) ≡ went t (cond (ltb (j + 1) (text_end c)) (Some (j + 1)) None)
    behind j b s l e = go (dec_lt (j + 1) (length t))
      where
        there : Ends t (Offsets.row_of t i) j
        there = record { stands = s; within = l; nl = e }

        go : Dec (j + 1 < length t) → Places.next_row t (Offsets.row_of t i) ≡ went t (cond (ltb (j + 1) (text_end c)) (Some (j + 1)) None)
        go (yes k) = rw (near (j + 1) k) (goes (next_yes t (Offsets.row_of t i) j there k))
        go (no m) = rw (far (j + 1) (omega arith)) (sym (next_no t (Offsets.row_of t i) j there (omega arith)))

    from_char : (l : i < length t) (n : get_or t i 0 ≡ 10 → ⊥) → Stand word t (i + 1) → Places.step_forward t (pos t i) ≡ went t (forward c i)
    from_char l n (at_last k) =
        let two : i + 2 ≡ i + 1 + 1 = omega arith in
        let by_forward_over = forward_over c i (rw (char_ends word t i l n, last_ends word t (i + 1) (omega arith))) in
        rw (by_forward_over, far (i + 2) (omega arith)) (sym (last_forward t spot (spot_of t i h) l n k))
    from_char l n (at_break k e) =
        let two : i + 2 ≡ i + 1 + 1 = omega arith in
        let by_forward_over = forward_over c i (rw (char_ends word t i l n, break_ends word t (i + 1) k e)) in
        rw (by_forward_over, two) (sym (row_forward t spot (spot_of t i h) l n k e) ∙ behind (i + 1) (omega arith) (char_spot t spot (spot_of t i h) l n) k e)
    from_char l n (at_char k m) =
        let by_forward_next = forward_next c i (rw (char_ends word t i l n, char_ends word t (i + 1) k m)) in
        rw (by_forward_next, near (i + 1) k) (goes (char_forward t spot (spot_of t i h) l n k m))

    on_by : Stand word t i → Places.step_forward t (pos t i) ≡ went t (forward c i)
    on_by (at_last l) = rw (forward_none c i (omega (arith, end_is))) (sym (end_forward t spot (spot_of t i h) l))
    on_by (at_break l e) =
        rw (forward_next c i (rw (break_ends word t i l e))) (sym (nl_forward t spot (spot_of t i h) l e) ∙ behind i (omega arith) (spot_of t i h) l e)
    on_by (at_char l n) = from_char l n (stand word t (i + 1))

    pub on : Places.step_forward t (pos t i) ≡ went t (forward c i)
    on = on_by (stand word t i)

    next_by : i + 1 < length t → Stand word t i → Places.inc t (pos t i) ≡ Places.To (pos t (i + 1))
    next_by k (at_last l) = absurd (omega arith)
    next_by k (at_break l e) =
        let there : Ends t (Offsets.row_of t i) i = record { stands = spot_of t i h; within = l; nl = e } in
        sym (nl_inc t spot (spot_of t i h) l e) ∙ goes (next_yes t (Offsets.row_of t i) i there k)
    next_by k (at_char l n) = goes (char_inc t spot (spot_of t i h) l n)

    pub next : i + 1 < length t → Places.inc t (pos t i) ≡ Places.To (pos t (i + 1))
    next k = next_by k (stand word t i)

    -- the place behind a character is the next column of its row
    beside_by : is_end c i ≡ false → Stand word t i → position (pos t i).row ((pos t i).col + 1) ≡ pos t (i + 1)
    beside_by k (at_last l) = let never : ◌≡◌ {A = ℕ} 0 1 = cc (sym k ∙ last_ends word t i (omega arith)) in absurd (omega arith)
    beside_by k (at_break l e) = let never : ◌≡◌ {A = ℕ} 0 1 = cc (sym k ∙ break_ends word t i l e) in absurd (omega arith)
    beside_by k (at_char l n) =
        sym (char_col_lem t spot (spot_of t i h) l n) ∙ spot_pos t (record { row = Offsets.row_of t i; at = i + 1 }) (char_spot t spot (spot_of t i h) l n)

    pub beside : is_end c i ≡ false → position (pos t i).row ((pos t i).col + 1) ≡ pos t (i + 1)
    beside k = beside_by k (stand word t i)

  -- one back
  back_by : (i : ℕ) → suc i ≤ length t → Dec (get_or t i 0 ≡ 10) → Places.dec t (pos t (suc i)) ≡ Places.To (pos t i)
  back_by i h (yes e) =
      let one : suc i - 1 ≡ i = omega arith in
      rw one at (goes (back_row t (record { row = Offsets.row_of t (suc i); at = suc i }) (spot_of t (suc i) h) (omega arith) (rw one e)))
  back_by i h (no n) =
      let one : suc i - 1 ≡ i = omega arith in
      rw one at (goes (back_char t (record { row = Offsets.row_of t (suc i); at = suc i }) (spot_of t (suc i) h) (omega arith) (rw one n)))

  pub back : (i : ℕ) → i ≤ length t → Places.dec t (pos t i) ≡ went t (backward i)
  back zero h = sym (back_none t (record { row = Offsets.row_of t zero; at = zero }) (spot_of t zero h) refl)
  back (suc i) h = back_by i h (ℕ_discrete (get_or t i 0) 10)

  -- the end of the last row with content
  void : 0 < length t → (get_or t (length t - 1) 0 ≡ 10 → ⊥) → last_empty c ≡ false
  void z n = rw (end_is, last_fresh word t z, ne_eqb _ 10 n, lt-ltb 0 (length t) z)

  by_last : Dec (0 < length t) → Dec (get_or t (length t - 1) 0 ≡ 10) → Places.end_of_buffer t ≡ pos t (content_end c)
  unfolding content_end
  by_last (no m) d =
      let empty : last_empty c ≡ false = rw (end_is, le-ltb 0 (length t) (omega arith)) in
      rw (empty, end_is) (lands (end_char t (λ z. absurd (m z))))
  by_last (yes z) (no n) = rw (void z n, end_is) (lands (end_char t (λ w. n)))
  by_last (yes z) (yes q) =
      let empty : last_empty c ≡ true = rw (end_is, last_fresh word t z, eq-eqb _ 10 q, lt-ltb 0 (length t) z) in
      rw (empty, end_is) (lands (end_nl t z q))

  pub content : Places.end_of_buffer t ≡ pos t (content_end c)
  content = by_last (dec_lt 0 (length t)) (ℕ_discrete (get_or t (length t - 1) 0) 10)
