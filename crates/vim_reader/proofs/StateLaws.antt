-- Where a step can lead: never back to the start, and behind a comma only where a part may end. Assumes nothing.
use Rattle.lists.proofs.Kit.{◌≡◌, Bool, true, false, cond, ◌&&◌, ℕ, ◌+◌, ◌*◌, ◌-◌, arith, eqb, leb}
use Rattle.lists.specs.Codes.{is_digit}
use Rattle.vim_reader.specs.declared.State.{State}
use Rattle.vim_reader.specs.declared.State.TheVariants.{Start, Part, Caret, Number, Sign, Dash, Second, Done, Dead}
use Rattle.vim_reader.specs.Machine.{most_of, first_of, start_of, behind, number_step, second_of, dash_step, second_step, done_step, step_of, phase_of}

-- a phase that is not p, whichever way a test goes
either : (p : ℕ) (b : Bool) (σ τ : State) → (phase_of σ ≡ p → ⊥) → (phase_of τ ≡ p → ⊥) → phase_of (cond b σ τ) ≡ p → ⊥
either p true σ τ h k e = h e
either p false σ τ h k e = k e

pub first_phase : (p : ℕ) (out : Bool) (x : ℕ) → (3 ≡ p → ⊥) → (0 ≡ p → ⊥) → phase_of (first_of out x) ≡ p → ⊥
unfolding first_of phase_of
first_phase p out x a b = either p (is_digit x) (Number out (x - 48)) (cond (leb x 127) (Sign out x) Dead) a (either p (leb x 127) (Sign out x) Dead a b)

pub start_phase : (p x : ℕ) → (3 ≡ p → ⊥) → (0 ≡ p → ⊥) → phase_of (start_of x) ≡ p → ⊥
unfolding start_of phase_of
start_phase p x a b = either p (eqb x 94) Caret (first_of false x) a (first_phase p false x a b)

behind_phase : (out char : Bool) (lo x : ℕ) → phase_of (behind out char lo x) ≡ 2 → ⊥
unfolding behind phase_of
behind_phase out char lo x = either 2 (eqb x 44) Part (cond (eqb x 45) (Dash out char lo) Dead) (λ e. omega arith)
    (either 2 (eqb x 45) (Dash out char lo) Dead (λ e. omega arith) (λ e. omega arith))

pub second_phase : (p : ℕ) (out char : Bool) (lo v : ℕ) → (3 ≡ p → ⊥) → (0 ≡ p → ⊥) → phase_of (second_of out char lo v) ≡ p → ⊥
unfolding second_of phase_of
second_phase p out char lo v a b = either p (leb v 255 && leb lo (most_of v)) (Second out char lo v) Dead a b

-- no step leads back to the start
pub step_no_start : (σ : State) (x : ℕ) → phase_of (step_of σ x) ≡ 2 → ⊥
unfolding step_of number_step dash_step second_step done_step phase_of
step_no_start Start x = start_phase 2 x (λ e. omega arith) (λ e. omega arith)
step_no_start Part x = start_phase 2 x (λ e. omega arith) (λ e. omega arith)
step_no_start Caret x = first_phase 2 true x (λ e. omega arith) (λ e. omega arith)
step_no_start (Number out v) x = either 2 (is_digit x) (cond (leb (v * 10 + (x - 48)) 255) (Number out (v * 10 + (x - 48))) Dead) (behind out false v x)
    (either 2 (leb (v * 10 + (x - 48)) 255) (Number out (v * 10 + (x - 48))) Dead (λ e. omega arith) (λ e. omega arith)) (behind_phase out false v x)
step_no_start (Sign out c) x = behind_phase out true c x
step_no_start (Dash out char lo) x = either 2 (is_digit x) (second_of out char lo (x - 48)) (cond (leb lo x && leb x 127) (Done out char lo x) Dead)
    (second_phase 2 out char lo (x - 48) (λ e. omega arith) (λ e. omega arith))
    (either 2 (leb lo x && leb x 127) (Done out char lo x) Dead (λ e. omega arith) (λ e. omega arith))
step_no_start (Second out char lo v) x = either 2 (is_digit x) (second_of out char lo (v * 10 + (x - 48))) (cond (eqb x 44 && leb lo v) Part Dead)
    (second_phase 2 out char lo (v * 10 + (x - 48)) (λ e. omega arith) (λ e. omega arith))
    (either 2 (eqb x 44 && leb lo v) Part Dead (λ e. omega arith) (λ e. omega arith))
step_no_start (Done out char lo c) x = either 2 (eqb x 44) Part Dead (λ e. omega arith) (λ e. omega arith)
step_no_start Dead x = λ e. omega arith
