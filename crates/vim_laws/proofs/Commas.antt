-- Where a part may end: a comma leads behind it exactly there. Assumes nothing.
use Rattle.lists.proofs.Kit.{◌≡◌, refl, ap, sym, ◌∙◌, Bool, true, false, true≢false, ℕ, ◌+◌, ◌*◌, ◌-◌, ◌<◌, dec_lt, ℕ_discrete, arith, leb, le-leb, leb-true}
use Rattle.lists.specs.Codes.{is_digit}
use Rattle.vim_reader.specs.declared.State.{State}
use Rattle.vim_reader.specs.declared.State.TheVariants.{Start, Part, Caret, Number, Sign, Dash, Second, Done, Dead}
use Rattle.vim_reader.specs.Machine.{behind, number_step, dash_step, second_step, done_step, step_of, phase_of, ends, is_start}
use Rattle.vim_reader.proofs.StateLaws.{first_phase, start_phase, second_phase}
use Rattle.vim_reader.proofs.MachineLaws as m

-- a part may end here by a comma
unfoldable pub closed : State → Bool
closed Start = false
closed Part = false
closed Caret = false
closed (Number out v) = true
closed (Sign out c) = true
closed (Dash out char lo) = false
closed (Second out char lo v) = leb lo v
closed (Done out char lo c) = true
closed Dead = false

pub closed_ends : (σ : State) → closed σ ≡ true → (ends σ ≡ true) × (is_start σ ≡ false)
unfolding closed ends phase_of
closed_ends Start e = absurd (true≢false (sym e))
closed_ends Part e = absurd (true≢false (sym e))
closed_ends Caret e = absurd (true≢false (sym e))
closed_ends (Number out v) e = (refl, refl)
closed_ends (Sign out c) e = (refl, refl)
closed_ends (Dash out char lo) e = absurd (true≢false (sym e))
closed_ends (Second out char lo v) e = (e, refl)
closed_ends (Done out char lo c) e = (refl, refl)
closed_ends Dead e = absurd (true≢false (sym e))

pub closed_comma : (σ : State) → closed σ ≡ true → step_of σ 44 ≡ Part
unfolding closed step_of
closed_comma Start e = absurd (true≢false (sym e))
closed_comma Part e = absurd (true≢false (sym e))
closed_comma Caret e = absurd (true≢false (sym e))
closed_comma (Number out v) e = m.number_behind out v 44 refl ∙ m.behind_comma out false v 44 refl
closed_comma (Sign out c) e = m.behind_comma out true c 44 refl
closed_comma (Dash out char lo) e = absurd (true≢false (sym e))
closed_comma (Second out char lo v) e = m.in_second_comma out char lo v 44 refl refl (leb-true lo v e)
closed_comma (Done out char lo c) e = m.done_comma 44 refl
closed_comma Dead e = absurd (true≢false (sym e))

-- a step that leads behind a part
abbrev pub Ended : State → ℕ → Type 0
Ended σ x = (x ≡ 44) × (closed σ ≡ true) × (step_of σ x ≡ Part)

behind_end : (out char : Bool) (lo x : ℕ) → phase_of (behind out char lo x) ≡ 1 → (x ≡ 44) × (behind out char lo x ≡ Part)
unfolding phase_of
behind_end out char lo x e = go (ℕ_discrete x 44) (ℕ_discrete x 45)
  where
    go : Dec (x ≡ 44) → Dec (x ≡ 45) → (x ≡ 44) × (behind out char lo x ≡ Part)
    go (yes w) d = (w, m.behind_comma out char lo x w)
    go (no n) (yes w) = let never : ◌≡◌ {A = ℕ} 3 1 = sym (ap phase_of (m.behind_dash out char lo x n w)) ∙ e in absurd (omega arith)
    go (no n) (no k) = let never : ◌≡◌ {A = ℕ} 0 1 = sym (ap phase_of (m.behind_dead out char lo x n k)) ∙ e in absurd (omega arith)

pub step_comma : (σ : State) (x : ℕ) → phase_of (step_of σ x) ≡ 1 → Ended σ x
unfolding step_of closed phase_of
step_comma Start x e = absurd (start_phase 1 x (λ z. omega arith) (λ z. omega arith) e)
step_comma Part x e = absurd (start_phase 1 x (λ z. omega arith) (λ z. omega arith) e)
step_comma Caret x e = absurd (first_phase 1 true x (λ z. omega arith) (λ z. omega arith) e)
step_comma (Number out v) x e = go (is_digit x) refl (dec_lt 255 (v * 10 + (x - 48)))
  where
    go : (b : Bool) → is_digit x ≡ b → Dec (255 < v * 10 + (x - 48)) → (x ≡ 44) × (true ≡ true) × (number_step out v x ≡ Part)
    go true d (yes h) = let never : ◌≡◌ {A = ℕ} 0 1 = sym (ap phase_of (m.number_dead out v x d h)) ∙ e in absurd (omega arith)
    go true d (no h) = let never : ◌≡◌ {A = ℕ} 3 1 = sym (ap phase_of (m.number_on out v x d (omega arith))) ∙ e in absurd (omega arith)
    go false d h =
        let by_number_behind = m.number_behind out v x d in
        let by_behind_end = behind_end out false v x (sym (ap phase_of by_number_behind) ∙ e) in
        (by_behind_end.0, refl, by_number_behind ∙ by_behind_end.1)
step_comma (Sign out c) x e = let by_behind_end = behind_end out true c x e in (by_behind_end.0, refl, by_behind_end.1)
step_comma (Dash out char lo) x e = go (is_digit x) refl (dec_lt x lo) (dec_lt 127 x)
  where
    go : (b : Bool) → is_digit x ≡ b → Dec (x < lo) → Dec (127 < x) → (x ≡ 44) × (false ≡ true) × (dash_step out char lo x ≡ Part)
    go true d y z = absurd (second_phase 1 out char lo (x - 48) (λ w. omega arith) (λ w. omega arith) (sym (ap phase_of (m.dash_digit out char lo x d)) ∙ e))
    go false d (yes y) z = let never : ◌≡◌ {A = ℕ} 0 1 = sym (ap phase_of (m.dash_below out char lo x d y)) ∙ e in absurd (omega arith)
    go false d (no y) (yes z) =
        let never : ◌≡◌ {A = ℕ} 0 1 = sym (ap phase_of (m.dash_above out char lo x d (omega arith) z)) ∙ e in absurd (omega arith)
    go false d (no y) (no z) =
        let never : ◌≡◌ {A = ℕ} 3 1 = sym (ap phase_of (m.dash_done out char lo x d (omega arith) (omega arith))) ∙ e in absurd (omega arith)
step_comma (Second out char lo v) x e = go (is_digit x) refl (ℕ_discrete x 44) (dec_lt v lo)
  where
    go : (b : Bool) → is_digit x ≡ b → Dec (x ≡ 44) → Dec (v < lo) → (x ≡ 44) × (leb lo v ≡ true) × (second_step out char lo v x ≡ Part)
    go true d y z = absurd (second_phase 1 out char lo (v * 10 + (x - 48)) (λ w. omega arith) (λ w. omega arith)
        (sym (ap phase_of (m.in_second_digit out char lo v x d)) ∙ e))
    go false d (yes y) (yes z) = let never : ◌≡◌ {A = ℕ} 0 1 = sym (ap phase_of (m.in_second_below out char lo v x d y z)) ∙ e in absurd (omega arith)
    go false d (yes y) (no z) = (y, le-leb lo v (omega arith), m.in_second_comma out char lo v x d y (omega arith))
    go false d (no y) z = let never : ◌≡◌ {A = ℕ} 0 1 = sym (ap phase_of (m.in_second_other out char lo v x d y)) ∙ e in absurd (omega arith)
step_comma (Done out char lo c) x e = go (ℕ_discrete x 44)
  where
    go : Dec (x ≡ 44) → (x ≡ 44) × (true ≡ true) × (done_step x ≡ Part)
    go (yes y) = (y, refl, m.done_comma x y)
    go (no y) = let never : ◌≡◌ {A = ℕ} 0 1 = sym (ap phase_of (m.done_dead x y)) ∙ e in absurd (omega arith)
step_comma Dead x e = absurd (omega (arith, e))
