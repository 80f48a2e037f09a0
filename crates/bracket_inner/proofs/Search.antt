-- The last place that passes a test, from what is known of it; and what a place that is told of a walk is. Assumes nothing.
use Rattle.lists.proofs.Kit.{◌≡◌, refl, ap, List, Bool, false, ℕ, ◌<◌, dec_lt, arith, Option, Some, None}
use Rattle.row_search.specs.Nearest.{last_below}
use Rattle.row_search.proofs.Nearest.{never}
use Rattle.row_search.proofs.Told.{Last, last_told, last_none}
use Rattle.text.specs.declared.Position.{Position}
use Rattle.bracket_walks.specs.declared.Partner.TheVariants.{There, None as Partner-as-None, Refused}
use Rattle.bracket_walks.specs.Matching.{pos_of, placed}

module _ (p : ℕ → Bool) (b : ℕ) where
  pub last_is : (j : ℕ) → Last p b j → last_below p b ≡ Some j
  last_is j l = on (last_below p b) refl
    where
      same : (m : ℕ) → Last p b m → Dec (j < m) → Dec (m < j) → m ≡ j
      same m d (yes u) v = absurd (never d.passes (l.none m u d.below))
      same m d (no u) (yes v) = absurd (never l.passes (d.none j v l.below))
      same m d (no u) (no v) = omega arith

      on : (f : Option ℕ) → last_below p b ≡ f → f ≡ Some j
      on (Some m) e = ap Some (same m (last_told p b m e) (dec_lt j m) (dec_lt m j))
      on None e = absurd (never l.passes (last_none p b e j l.below))

  pub last_nowhere : ((m : ℕ) → m < b → p m ≡ false) → last_below p b ≡ None
  last_nowhere h = on (last_below p b) refl
    where
      on : (f : Option ℕ) → last_below p b ≡ f → f ≡ None
      on (Some m) e = let by_last_told = last_told p b m e in absurd (never by_last_told.passes (h m by_last_told.below))
      on None e = refl

-- a walk's answer that is a position is that of an offset, and none is a refusal
module _ (t : List ℕ) where
  pub placed_there : (f : Option ℕ) (q : Position) → placed t f ≡ There q → (j : ℕ) × (f ≡ Some j) × (pos_of t j ≡ q)
  unfolding placed
  placed_there (Some j) q e = let pos_is : pos_of t j ≡ q = cc in (j, refl, pos_is)
  placed_there None q e = let nonsense : ◌≡◌ {A = ℕ} 0 1 = cc in absurd (omega arith)

  pub placed_nowhere : (f : Option ℕ) → placed t f ≡ Partner-as-None → f ≡ None
  unfolding placed
  placed_nowhere (Some j) e = let nonsense : ◌≡◌ {A = ℕ} 0 1 = cc in absurd (omega arith)
  placed_nowhere None e = refl

  pub placed_refuses : (f : Option ℕ) (n : ℕ) → placed t f ≡ Refused n → ⊥
  unfolding placed
  placed_refuses (Some j) n e = let nonsense : ◌≡◌ {A = ℕ} 0 1 = cc in omega arith
  placed_refuses None n e = let nonsense : ◌≡◌ {A = ℕ} 0 1 = cc in omega arith
