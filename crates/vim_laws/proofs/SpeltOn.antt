-- A part that has been spelt so far, and one code point more: what the machine is in then has been spelt too. Assumes nothing.
use Rattle.lists.proofs.Kit.{◌≡◌, refl, ap, sym, ◌∙◌, List, [], ◌∷◌, ◌++◌, append_assoc, Bool, true, false, true≢false, ℕ, ◌+◌, ◌*◌, ◌-◌, ◌≤◌, ◌<◌, dec_lt}
use Rattle.lists.proofs.Kit.{ℕ_discrete, arith, length-append}
use Rattle.lists.specs.Codes.{is_digit}
use Rattle.list_parts.specs.Numbers.{all_digits, value}
use Rattle.vim_grammar.specs.Tokens.{one}
use Rattle.vim_grammar.specs.Grammar.{Number as Numeral, End, by_number, of_char}
use Rattle.vim_reader.specs.declared.State.{State}
use Rattle.vim_reader.specs.Machine.{most_of, first_of, start_of, behind, number_step, second_of, dash_step, second_step, done_step, step_of, phase_of}
use Rattle.vim_reader.proofs.MachineLaws as m
use Rattle.vim_laws.proofs.Numbers.{digits_append, value_append}
use Rattle.vim_laws.proofs.Spelt.{front, front_append, Free, Spelt, at_part, at_caret, at_number, at_sign, at_dash, at_second, at_done, first_stays}

-- one digit
one_digit : (x : ℕ) → is_digit x ≡ true → Numeral (x ∷ []) (x - 48)
unfolding all_digits value
one_digit x d =
    let none : 0 * 10 + (x - 48) ≡ x - 48 = omega arith in
    record { some = omega arith; all = rw d; is = none; most = omega (arith, m.digit_high x d) }

-- one digit more
more_digits : {ds : List ℕ} {v : ℕ} (x : ℕ) → Numeral ds v → is_digit x ≡ true → v * 10 + (x - 48) ≤ 255 → Numeral (ds ++ (x ∷ [])) (v * 10 + (x - 48))
unfolding all_digits value
more_digits {ds = ds} {v = v} x n d h =
    let one : all_digits (x ∷ []) ≡ true = rw d in
    record {
      some = omega (arith, length-append ds (x ∷ []));
      all = digits_append ds (x ∷ []) n.all one;
      is = value_append 0 ds (x ∷ []) ∙ ap (λ (w : ℕ). w * 10 + (x - 48)) n.is;
      most = h;
    }

first_spelt : (out : Bool) (x : ℕ) → Free out (x ∷ []) → (phase_of (first_of out x) ≡ 0 → ⊥) → Spelt (first_of out x) (front out (x ∷ []))
unfolding phase_of
first_spelt out x f live = go (is_digit x) refl (dec_lt 127 x)
  where
    go : (b : Bool) → is_digit x ≡ b → Dec (127 < x) → Spelt (first_of out x) (front out (x ∷ []))
    go true d w = rw (m.first_digit out x d) (at_number (one_digit x d) f)
    go false d (no h) = rw (m.first_sign_lem out x d (omega arith)) (at_sign {c = x} (record { ascii = omega arith; no_digit = d }) f)
    go false d (yes h) = absurd (live (ap phase_of (m.first_dead out x d h)))

start_spelt : (x : ℕ) → (phase_of (start_of x) ≡ 0 → ⊥) → Spelt (start_of x) (x ∷ [])
start_spelt x live = go (ℕ_discrete x 94)
  where
    go : Dec (x ≡ 94) → Spelt (start_of x) (x ∷ [])
    go (yes e) = rw (m.start_caret x e, e) at_caret
    go (no n) =
        let by_start_first = m.start_first x n in
        rw by_start_first (first_spelt false x (λ z w. n w) (λ z. live (ap phase_of by_start_first ∙ z)))

behind_spelt : (out char : Bool) (p : List ℕ) (lo x : ℕ) → End p char lo → Free out p → (phase_of (behind out char lo x) ≡ 0 → ⊥) →
    (phase_of (behind out char lo x) ≡ 1 → ⊥) → Spelt (behind out char lo x) (front out p ++ (x ∷ []))
unfolding phase_of
behind_spelt out char p lo x e f live within = go (ℕ_discrete x 44) (ℕ_discrete x 45)
  where
    go : Dec (x ≡ 44) → Dec (x ≡ 45) → Spelt (behind out char lo x) (front out p ++ (x ∷ []))
    go (yes w) d = absurd (within (ap phase_of (m.behind_comma out char lo x w)))
    go (no n) (yes w) = rw (m.behind_dash out char lo x n w, w, front_append out p (45 ∷ [])) (at_dash e f)
    go (no n) (no k) = absurd (live (ap phase_of (m.behind_dead out char lo x n k)))

second_spelt :
    (out char : Bool) (p ds : List ℕ) (lo v : ℕ) → End p char lo → Free out p → (v ≤ 255 → Numeral ds v) → (phase_of (second_of out char lo v) ≡ 0 → ⊥) →
    Spelt (second_of out char lo v) (front out (p ++ (45 ∷ ds)))
unfolding phase_of
second_spelt out char p ds lo v e f n live = go (dec_lt 255 v) (dec_lt (most_of v) lo)
  where
    go : Dec (255 < v) → Dec (most_of v < lo) → Spelt (second_of out char lo v) (front out (p ++ (45 ∷ ds)))
    go (yes h) d = absurd (live (ap phase_of (m.second_over out char lo v h)))
    go (no h) (yes k) = absurd (live (ap phase_of (m.second_below out char lo v (omega arith) k)))
    go (no h) (no k) = rw (m.second_taken out char lo v (omega arith) (omega arith)) (at_second e f (n (omega arith)) (omega arith))

-- one code point more behind a range's minus
join : (out : Bool) (p q : List ℕ) (x : ℕ) → front out (p ++ q) ++ (x ∷ []) ≡ front out (p ++ (q ++ (x ∷ [])))
join out p q x = front_append out (p ++ q) (x ∷ []) ∙ ap (front out) (append_assoc p q (x ∷ []))

module _ (x : ℕ) where
  pub step_spelt : {σ : State} {p : List ℕ} → Spelt σ p → (phase_of (step_of σ x) ≡ 0 → ⊥) → (phase_of (step_of σ x) ≡ 1 → ⊥) → Spelt (step_of σ x) (p ++ (x ∷ []))
  unfolding step_of phase_of
  step_spelt at_part live within = start_spelt x live
  step_spelt at_caret live within = first_spelt true x (λ z. absurd (true≢false z)) live
  step_spelt (at_number {out = out} {ds = ds} {v = v} n f) live within = go (is_digit x) refl (dec_lt 255 (v * 10 + (x - 48)))
    where
      go : (b : Bool) → is_digit x ≡ b → Dec (255 < v * 10 + (x - 48)) → Spelt (number_step out v x) (front out ds ++ (x ∷ []))
      go true d (yes h) = absurd (live (ap phase_of (m.number_dead out v x d h)))
      go true d (no h) = rw (m.number_on out v x d (omega arith), front_append out ds (x ∷ []))
          (at_number (more_digits x n d (omega arith)) (λ z w. f z (sym (first_stays ds (x ∷ []) n.some) ∙ w)))
      go false d w =
          let by_number_behind = m.number_behind out v x d in
          rw by_number_behind
          (behind_spelt out false ds v x (by_number n) f (λ z. live (ap phase_of by_number_behind ∙ z)) (λ z. within (ap phase_of by_number_behind ∙ z)))
  step_spelt (at_sign {out = out} {c = c} h f) live within = behind_spelt out true (c ∷ []) c x (of_char h) f live within
  step_spelt (at_dash {out = out} {char = char} {p = p} {lo = lo} e f) live within = go (is_digit x) refl (dec_lt x lo) (dec_lt 127 x)
    where
      go : (b : Bool) → is_digit x ≡ b → Dec (x < lo) → Dec (127 < x) → Spelt (dash_step out char lo x) (front out (p ++ (45 ∷ [])) ++ (x ∷ []))
      go true d y z =
          let by_dash_digit = m.dash_digit out char lo x d in
          rw (by_dash_digit, join out p (45 ∷ []) x)
          (second_spelt out char p (x ∷ []) lo (x - 48) e f (λ k. one_digit x d) (λ w. live (ap phase_of by_dash_digit ∙ w)))
      go false d (yes y) z = absurd (live (ap phase_of (m.dash_below out char lo x d y)))
      go false d (no y) (yes z) = absurd (live (ap phase_of (m.dash_above out char lo x d (omega arith) z)))
      go false d (no y) (no z) = rw (m.dash_done out char lo x d (omega arith) (omega arith), join out p (45 ∷ []) x)
          (at_done {c = x} e f (record { ascii = omega arith; no_digit = d }) (omega arith))
  step_spelt (at_second {out = out} {char = char} {p = p} {ds = ds} {lo = lo} {v = v} e f n a) live within = go (is_digit x) refl (ℕ_discrete x 44) (dec_lt v lo)
    where
      go : (b : Bool) → is_digit x ≡ b → Dec (x ≡ 44) → Dec (v < lo) → Spelt (second_step out char lo v x) (front out (p ++ (45 ∷ ds)) ++ (x ∷ []))
      go true d y z =
          let by_in_second_digit = m.in_second_digit out char lo v x d in
          rw (by_in_second_digit, join out p (45 ∷ ds) x)
          (second_spelt out char p (ds ++ (x ∷ [])) lo (v * 10 + (x - 48)) e f (λ k. more_digits x n d k) (λ w. live (ap phase_of by_in_second_digit ∙ w)))
      go false d (yes y) (yes z) = absurd (live (ap phase_of (m.in_second_below out char lo v x d y z)))
      go false d (yes y) (no z) = absurd (within (ap phase_of (m.in_second_comma out char lo v x d y (omega arith))))
      go false d (no y) z = absurd (live (ap phase_of (m.in_second_other out char lo v x d y)))
  step_spelt (at_done {out = out} {p = p} {c = c} e f h k) live within = go (ℕ_discrete x 44)
    where
      go : Dec (x ≡ 44) → Spelt (done_step x) (front out (p ++ (45 ∷ c ∷ [])) ++ (x ∷ []))
      go (yes y) = absurd (within (ap phase_of (m.done_comma x y)))
      go (no y) = absurd (live (ap phase_of (m.done_dead x y)))
