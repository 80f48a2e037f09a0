-- The law that every motion shares: the caret that it answers with stands in the text.
-- Assumes nothing.
use Rattle.lists.proofs.Kit.{◌≡◌, refl, List, ◌∷◌, Bool, true, false, cond, ℕ, arith, eqb, eqb-true}
use Rattle.positions.specs.Positions.{lowest}
use Rattle.positions.proofs.Lowest.{lowest_none}
use Rattle.positions.proofs.Checks.{inside, inside_at}
use Rattle.text_moves.specs.declared.Way.{Way}
use Rattle.text_moves.specs.Ways.{gone}
use Rattle.text_moves.proofs.Going.{gone_in}
use Rattle.motions.specs.declared.Caret.{Caret}
use Rattle.motions.specs.declared.Moved.{Moved}
use Rattle.motions.specs.declared.Moved.TheVariants.{To, Refused}
use Rattle.motions.specs.Carets.{here, caret_refusal, refusal_of, moving, put, leads, Inside}

-- a motion answers `To c`
abbrev pub Lands : List ℕ → Moved → Type 0
Lands t r = (c : Caret) → r ≡ To c → Inside t c

-- it does so only where no check refuses the call: what holds of the caret that it leads to holds of that
pub moving_to : (P : Caret → Type 0) (f : ℕ) (m : Caret) → (f ≡ 0 → P m) → (c : Caret) → moving f m ≡ To c → P c
unfolding moving
moving_to P f m h c e = go (eqb f 0) refl e
  where
    go : (b : Bool) → eqb f 0 ≡ b → cond b (To m) (Refused f) ≡ To c → P c
    go true p q =
        let same : m ≡ c = cc in
        rw same at (h (eqb-true f 0 p))
    go false p q = let never : ◌≡◌ {A = ℕ} 0 1 = cc in absurd (omega arith)

pub moving_lands : (t : List ℕ) (f : ℕ) (m : Caret) → (f ≡ 0 → Inside t m) → Lands t (moving f m)
moving_lands t f m h = moving_to (Inside t) f m h

module _ (t : List ℕ) (k : Caret) where
  -- where no check refuses a call, those of its text and its caret first, it comes from a caret in the text
  pub caret_in_lem : (f : ℕ) (rest : List ℕ) → lowest (f ∷ caret_refusal t k ∷ rest) ≡ 0 → Inside t k
  caret_in_lem f rest z = inside_at t (here k) (lowest_none (caret_refusal t k) rest (lowest_none f (caret_refusal t k ∷ rest) z).1).0

  pub way_lands : (w : Way) (n : ℕ) → Lands t (leads t k (gone t w n (here k)))
  way_lands w n = moving_lands t (refusal_of t k) (put k (gone t w n (here k))) (λ z. gone_in t w n (here k) (inside t (here k) z))
