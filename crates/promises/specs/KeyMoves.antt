-- The % key, over what `match_bracket` answers: it lands on the partner of a round, square or curly bracket at or after the caret in the
-- caret's row. From document 01, "What every public promise has to say". Definitions only; `key` is in `proofs/KeyMoves.antt`. Assumes nothing.
use Rattle.std.specs.Prelude.{ℕ, ◌≡◌, List, None}
use Rattle.bracket_laws.specs.Jump.{pos_at, Lands, Stays}
use Rattle.motions.specs.declared.Caret.{Caret}
use Rattle.motions.specs.declared.Sought.TheVariants.{Found, Missing, Refused}
use Rattle.motions.specs.Carets.{here, refusal_of, cleared}
use Rattle.motions.specs.Finds.{match_bracket}

-- no check refuses the call, and k' stands on the partner of the first round, square or curly bracket at or after k in its row
pub record OnPartner (t : List ℕ) (k k' : Caret) : Type 0 where
  pub accepted : refusal_of t k ≡ 0
  pub partner : Lands t k.row k.col (pos_at k'.row k'.col)
  pub sticky_kept : k'.sticky ≡ k.sticky
  pub offset_cleared : k'.offset ≡ None

-- no check refuses the call, there is no such bracket or the first has no partner, and the caret is as it was, but for its offset
pub record AsItWas (t : List ℕ) (k k' : Caret) : Type 0 where
  pub accepted : refusal_of t k ≡ 0
  pub no_partner : Stays t k.row k.col
  pub same : k' ≡ cleared k

-- the number f that the call is refused with
pub record RefusedWith (t : List ℕ) (k : Caret) (f : ℕ) : Type 0 where
  pub number : refusal_of t k ≡ f
  pub some : f ≡ 0 → ⊥

-- where the key moves it lands on that partner; it finds nothing exactly where there is none, and is refused exactly where its checks say so
pub record Key (t : List ℕ) (k : Caret) : Type 0 where
  pub lands : (k' : Caret) → match_bracket t k ≡ Found k' → OnPartner t k k'
  pub lands_only : (k' : Caret) → OnPartner t k k' → match_bracket t k ≡ Found k'
  pub moves : (k' : Caret) → match_bracket t k ≡ Found k' → here k' ≡ here k → ⊥
  pub missing : (k' : Caret) → match_bracket t k ≡ Missing k' → AsItWas t k k'
  pub missing_only : (k' : Caret) → AsItWas t k k' → match_bracket t k ≡ Missing k'
  pub refused : (f : ℕ) → match_bracket t k ≡ Refused f → RefusedWith t k f
  pub refused_only : (f : ℕ) → RefusedWith t k f → match_bracket t k ≡ Refused f
