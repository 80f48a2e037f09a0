-- What a motion by number writes stands in the text, and the last position written is that of its answer. Assumes nothing.
use Rattle.lists.proofs.Kit.{◌≡◌, refl, List, Bool, true, false, cond, ℕ, ℕ_discrete, arith, leb, ne_eqb}
use Rattle.lists.specs.Rounds.{rounds}
use Rattle.text.specs.declared.Position.{Position}
use Rattle.positions.specs.Positions.{Inside}
use Rattle.positions.proofs.Checks.{inside}
use Rattle.steps.specs.Steps.{times, space_fwd, backspace_back}
use Rattle.steps.proofs.Staying.{space_in, backspace_in}
use Rattle.motions.specs.declared.Caret.{Caret}
use Rattle.motions.specs.declared.Moved.{Moved}
use Rattle.motions.specs.declared.Moved.TheVariants.{To, Refused}
use Rattle.motions.specs.Carets.{here, refusal_of, put, leads}
use Rattle.motions.proofs.Landing.{moving_to}
use Rattle.call_texts.specs.Asks.{move_as}
use Rattle.call_texts.specs.Moves.{way_of, motion}
use Rattle.promises.specs.Positions.{AllIn, standing, in_moved}
use Rattle.promises.specs.Trails.{trail}
use Rattle.promises.specs.Writes.{writing, by_row, plain_writes, ends, last_of}
use Rattle.promises.proofs.Landings.{either, motion_lands}
use Rattle.promises.proofs.Trails.{trail_last, trail_in}

-- the positions stand in the text, and the last is the caret's
abbrev pub Fits : List ℕ → List Position → Caret → Type 0
Fits t l c = AllIn t l × (last_of l ≡ standing c)

-- so it is with what a motion writes, by the caret that it answers with
pub record Keeps (t : List ℕ) (m : Moved) (f : Caret → List Position) : Type 0 where
  pub fits : (c : Caret) → m ≡ To c → Fits t (f c) c

module _ (t : List ℕ) where
  pub kept : (m : Moved) (f : Caret → List Position) → Keeps t m f → AllIn t (writing m f) × (last_of (writing m f) ≡ in_moved m)
  kept (To c) f h = h.fits c refl
  kept (Refused n) f h = (tt, refl)

  pub refused : (n : ℕ) (f : Caret → List Position) → Keeps t (Refused n) f
  refused n f = record { fits = λ c e. let never : ◌≡◌ {A = ℕ} 0 1 = cc in absurd (omega arith) }

  -- one of two moves that are asked for
  pub both : {A : Type 0} (answer : A → Moved) (b : Bool) {x y : A} {f g : Caret → List Position} → Keeps t (answer x) f → Keeps t (answer y) g →
      Keeps t (answer (cond b x y)) (λ c. cond b (f c) (g c))
  both answer true p q = p
  both answer false p q = q

  module _ (c : Caret) (i : Inside t (here c)) where
    pub once : Fits t (standing c) c
    unfolding ends
    once = ((i, tt), refl)

    pub by_row_lem : Fits t (by_row c) c
    unfolding ends
    by_row_lem = ((record { in_row = i.in_row; in_col = omega arith }, (i, tt)), refl)

  module _ (k : Caret) (n : ℕ) where
    -- `<Space>` and `<BS>`
    by_steps : (f : Position → Position) → ((p : Position) → Inside t p → Inside t (f p)) →
        Keeps t (leads t k (rounds f (times n) (here k))) (λ c. trail (λ p. p) f (times n) (here k))
    by_steps f h = record {
      fits = moving_to (Fits t (trail (λ p. p) f (times n) (here k))) (refusal_of t k) (put k (rounds f (times n) (here k))) (λ z. (
        trail_in (λ p. p) f t h (times n) (here k) (inside t (here k) z),
        trail_last (λ p. p) f (times n) (here k) (omega arith),
      ));
    }

    space : Keeps t (motion 3 n k t) (plain_writes 3 n k t)
    unfolding motion way_of move_as plain_writes
    space = by_steps (space_fwd t) (space_in t)

    backspace : Keeps t (motion 4 n k t) (plain_writes 4 n k t)
    unfolding motion way_of move_as plain_writes
    backspace = by_steps (backspace_back t) (backspace_in t)

    module _ (op : ℕ) where
      -- by the row, or at once
      other : (op ≡ 3 → ⊥) → (op ≡ 4 → ⊥) → Keeps t (motion op n k t) (plain_writes op n k t)
      unfolding plain_writes
      other a b = record {
        fits = λ c e.
            let by_motion_lands = motion_lands t op n k c e in
            rw (ne_eqb op 3 a, ne_eqb op 4 b)
            (either (λ (l : List Position). Fits t l c) (leb 16 op) (by_row c) (standing c) (by_row_lem c by_motion_lands) (once c by_motion_lands));
      }

      pub plain_keeps : Keeps t (motion op n k t) (plain_writes op n k t)
      plain_keeps = go (ℕ_discrete op 3) (ℕ_discrete op 4)
        where
          go : Dec (op ≡ 3) → Dec (op ≡ 4) → Keeps t (motion op n k t) (plain_writes op n k t)
          go (yes e) b = rw e space
          go (no a) (yes e) = rw e backspace
          go (no a) (no b) = other a b
