-- The checks of an edit one after the other: what the call is refused with after each, and what is known where it is not. Long by its checks: a step for
-- each. Assumes nothing.
use Rattle.lists.proofs.Kit.{◌≡◌, sym, ap, ◌∙◌, List, [], ◌∷◌, ℕ, ◌+◌, ◌-◌, ◌^◌, ◌≤◌, ◌<◌, arith, length, take, length-take-le, lt-ltb, le-ltb}
use Rattle.text_check.specs.Accept.{text_refusal}
use Rattle.text_check.proofs.Accepted.{accepted_short}
use Rattle.text.specs.Text.{row_count}
use Rattle.text.specs.declared.Position.{Position}
use Rattle.positions.specs.declared.Entry.{Entry}
use Rattle.positions.specs.Positions.{lowest, position_refusal, refusal_at, entry_of}
use Rattle.positions.proofs.Checks.{entry_number, entered}
use Rattle.edit_places.proofs.Parts.{replaced_length}
use Rattle.edit_positions.specs.After.{offset_of, text_after}
use Rattle.edit_checks.specs.declared.Checked.{Checked}
use Rattle.edit_checks.specs.declared.Sizes.{Sizes}
use Rattle.edit_checks.specs.Refusals.{lower, held_refusal, held_folds, stretch_refusal, room_refusal, edit_refusal}
use Rattle.edit_checks.specs.Checks.{refused_by, checked_by, stretch_of, check_of}
use Rattle.edit_checks.proofs.Numbers.{lower_none, lower_one, lowest_front, lowest_back, lowest_head, lowest_tail, texts_caret}
use Rattle.edit_checks.proofs.Spots.{Stretches, stretches, checked_none, checked_refused, checked_number, checked_at}

module _ (buf folds : List ℕ) (s : Sizes) (p q : Position) (c : List ℕ) (k : Position) where
  abbrev t : List ℕ
  t = take s.len buf

  abbrev F : ℕ
  F = edit_refusal buf folds s p q c k

  abbrev A : ℕ
  A = lower (held_refusal buf s.len) (text_refusal c)

  abbrev B : ℕ
  B = position_refusal t k

  abbrev C : ℕ
  C = held_folds folds s.count (row_count t)

  abbrev D : ℕ
  D = stretch_refusal t p q

  abbrev E : ℕ
  E = room_refusal (length buf) (length (text_after t p q c))

  pub refused_by_lem : (f : ℕ) (r : Checked) → r ≡ refused_by f → F ≡ f → (f ≡ 0 → ⊥) → r ≡ check_of buf folds s p q c k
  refused_by_lem f r e g n = checked_refused t p q F f r e g n

  -- longer than the buffer
  pub by_length : (r : Checked) → r ≡ refused_by 1 → length buf < s.len → r ≡ check_of buf folds s p q c k
  unfolding edit_refusal held_refusal
  by_length r e h =
      let one : A ≡ 1 = rw (lt-ltb (length buf) s.len h) (lower_one (text_refusal c)) in
      refused_by_lem 1 r e (lowest_head A (B ∷ C ∷ D ∷ E ∷ []) (λ z. omega (arith, one, z)) ∙ one) (λ z. omega (arith, z))

  module _ (fits : s.len ≤ length buf) where
    held : A ≡ lower (text_refusal t) (text_refusal c)
    unfolding held_refusal
    held = rw (le-ltb (length buf) s.len fits)

    size : length t ≡ s.len
    size = length-take-le s.len buf fits

    -- text, code points and caret
    module _ (e : Entry) (g f : ℕ) (e_is : e ≡ entry_of t k) (g_is : g ≡ text_refusal c) (f_is : f ≡ lower e.refusal g) where
      first_two : lowest (A ∷ B ∷ []) ≡ f
      first_two = ap (λ (x : ℕ). lowest (x ∷ B ∷ [])) held ∙ sym (texts_caret t c k)
          ∙ sym (f_is ∙ ap (λ (x : ℕ). lower x g) (entry_number t k e e_is) ∙ ap (lower (refusal_at t k)) g_is)

      pub by_entry_lem : (f ≡ 0 → ⊥) → F ≡ f
      unfolding edit_refusal
      by_entry_lem n = lowest_front (A ∷ B ∷ []) (C ∷ D ∷ E ∷ []) (λ z. n (sym first_two ∙ z)) ∙ first_two

      module _ (z : f ≡ 0) where
        neither : (e.refusal ≡ 0) × (g ≡ 0)
        neither = lower_none e.refusal g (sym f_is ∙ z)

        pub entry_rows : e.rows ≡ row_count t
        entry_rows = (entered t k e e_is neither.0).all_rows

        pub text_brief : s.len ≤ 1048576
        text_brief = omega (arith, size, (entered t k e e_is neither.0).brief)

        pub text_short : length t ≤ 1048576
        text_short = omega (arith, size, text_brief)

        pub points_brief : length c ≤ 1048576
        points_brief = accepted_short c (sym g_is ∙ neither.1)

        rest : F ≡ lowest (C ∷ D ∷ E ∷ [])
        unfolding edit_refusal
        rest = lowest_back (A ∷ B ∷ []) (C ∷ D ∷ E ∷ []) (first_two ∙ z)

        module _ (h : ℕ) (h_is : h ≡ held_folds folds s.count e.rows) where
          folds_is : C ≡ h
          folds_is = sym (h_is ∙ ap (held_folds folds s.count) entry_rows)

          pub by_folds : (h ≡ 0 → ⊥) → F ≡ h
          by_folds n = rest ∙ lowest_head C (D ∷ E ∷ []) (λ y. n (sym folds_is ∙ y)) ∙ folds_is

          module _ (y : h ≡ 0) (r : Checked) (r_is : r ≡ stretch_of t p q) where
            last_two : F ≡ lowest (D ∷ E ∷ [])
            last_two = rest ∙ lowest_tail C (D ∷ E ∷ []) (folds_is ∙ y)

            number : r.refusal ≡ D
            number = checked_number t p q D r r_is

            pub by_stretch : (r.refusal ≡ 0 → ⊥) → r ≡ check_of buf folds s p q c k
            by_stretch n = r_is ∙ ap (λ (f : ℕ). checked_by f t p q) (sym (last_two ∙ lowest_head D (E ∷ []) (λ x. n (number ∙ x))))

            module _ (x : r.refusal ≡ 0) where
              there : Stretches t p q
              there = stretches t p q (sym number ∙ x)

              at : r ≡ record { refusal = 0; from = offset_of t p; to = offset_of t q; rows = row_count t }
              at = checked_at t p q D r r_is (sym number ∙ x)

              from_is : r.from ≡ offset_of t p
              from_is = ap (λ (w : Checked). w.from) at

              to_is : r.to ≡ offset_of t q
              to_is = ap (λ (w : Checked). w.to) at

              -- there is as much to take out, and not too much to put in
              pub in_order : r.from ≤ r.to
              in_order = omega (arith, from_is, to_is, there.order)

              pub in_text_lem : r.to - r.from ≤ s.len
              in_text_lem = omega (arith, from_is, to_is, there.order, there.within, size)

              pub in_words : s.len - (r.to - r.from) + length c < 2 ^ 64
              in_words = omega (arith, text_brief, points_brief)

              new_size : s.len - (r.to - r.from) + length c ≡ length (text_after t p q c)
              new_size =
                  let order_there = there.order in
                  let within_there = there.within in
                  omega (arith, from_is, to_is, size, replaced_length t (offset_of t p) (offset_of t q) c (omega arith))

              module _ (n : ℕ) (n_is : n ≡ room_refusal (length buf) (s.len - (r.to - r.from) + length c)) where
                room_is : E ≡ n
                room_is = sym (n_is ∙ ap (room_refusal (length buf)) new_size)

                whole : F ≡ lowest (E ∷ [])
                whole = last_two ∙ lowest_tail D (E ∷ []) (sym number ∙ x)

                pub by_room : (n ≡ 0 → ⊥) → F ≡ n
                by_room m = whole ∙ lowest_head E [] (λ w. m (sym room_is ∙ w)) ∙ room_is

                pub by_none : n ≡ 0 → r ≡ check_of buf folds s p q c k
                unfolding lowest
                by_none w = checked_none t p q F r (whole ∙ lowest_tail E [] (room_is ∙ w)) at
