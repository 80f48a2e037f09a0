-- Round, square and curly brackets: the test of the % key, and the first of them in a row.
-- Assumes nothing.
use Rattle.lists.proofs.Kit.{◌≡◌, refl, ap, List, Bool, true, false, ◌||◌, ◌⊎◌, inl, inr, ⊎_elim, ℕ, ◌≤◌, ◌<◌, dec_lt, arith, get_or, eqb, eqb-true, Option, Some, None}
use Rattle.text.specs.Text.{row_at, row_len}
use Rattle.bracket_kinds.specs.declared.Kind.{Kind}
use Rattle.bracket_kinds.specs.declared.Kind.TheVariants.{Round, Square, Curly, Angle}
use Rattle.bracket_kinds.specs.Kinds.{open_of, close_of, key_bracket}
use Rattle.bracket_kinds.specs.Find.{first_bracket}
use Rattle.bracket_laws.specs.Jump.{Plain, plain_at, FirstPlain}
use Rattle.row_search.proofs.Nearest.{never}
use Rattle.row_search.proofs.Told.{first_told, first_none}

-- the key's test is that of a round, square or curly bracket
plain : (k : Kind) {x : ℕ} → (open_of k ≡ 60 → ⊥) → (x ≡ open_of k) ⊎ (x ≡ close_of k) → Plain x
plain k n b = record { kind = k; no_angle = λ e. n (ap open_of e); bracket = b }

-- one test of the six
or_else : {x n : ℕ} {r : Bool} (b : Bool) → eqb x n ≡ b → (b || r) ≡ true → (x ≡ n → Plain x) → (r ≡ true → Plain x) → Plain x
or_else true e f g h = g (eqb-true _ _ e)
or_else false e f g h = h f

pub plain_told_lem : (x : ℕ) → key_bracket x ≡ true → Plain x
unfolding key_bracket
plain_told_lem x z = or_else (eqb x 40) refl z (λ e. plain Round (λ v. omega arith) (inl e))
    (λ y. or_else (eqb x 41) refl y (λ e. plain Round (λ v. omega arith) (inr e)) (λ w. or_else (eqb x 91) refl w (λ e. plain Square (λ v. omega arith) (inl e))
    (λ q. or_else (eqb x 93) refl q (λ e. plain Square (λ v. omega arith) (inr e))
    (λ p. or_else (eqb x 123) refl p (λ e. plain Curly (λ v. omega arith) (inl e)) (λ o. plain Curly (λ v. omega arith) (inr (eqb-true x 125 o)))))))

pub plain_of : (x : ℕ) → Plain x → key_bracket x ≡ true
unfolding key_bracket
plain_of x p = on p.kind p.no_angle p.bracket
  where
    on : (k : Kind) → (k ≡ Angle → ⊥) → (x ≡ open_of k) ⊎ (x ≡ close_of k) → key_bracket x ≡ true
    on Round n b = ⊎_elim (λ e. rw e) (λ e. rw e) b
    on Square n b = ⊎_elim (λ e. rw e) (λ e. rw e) b
    on Curly n b = ⊎_elim (λ e. rw e) (λ e. rw e) b
    on Angle n b = absurd (n refl)

module _ (t : List ℕ) (row col : ℕ) where
  no_plain_there : (m : ℕ) → key_bracket (get_or (row_at t row) m 0) ≡ false → plain_at t row m → ⊥
  no_plain_there m e p = never (plain_of _ p) e

  -- what the search in the row has found
  pub plain_first : (i : ℕ) → first_bracket (row_at t row) col ≡ Some i → FirstPlain t row col i
  plain_first i e =
      let by_first_told = first_told (λ m. key_bracket (get_or (row_at t row) m 0)) col (row_len t row) i e in
      record {
        from = by_first_told.from;
        in_row = by_first_told.below;
        plain = plain_told_lem _ by_first_told.passes;
        first = λ m l h. no_plain_there m (by_first_told.none m l h);
      }

  pub plain_none : first_bracket (row_at t row) col ≡ None → (m : ℕ) → col ≤ m → m < row_len t row → plain_at t row m → ⊥
  plain_none e m l h = no_plain_there m (first_none (λ i. key_bracket (get_or (row_at t row) i 0)) col (row_len t row) e m l h)

  -- there is no other first
  pub plain_found : (i : ℕ) → FirstPlain t row col i → first_bracket (row_at t row) col ≡ Some i
  plain_found i f = on (first_bracket (row_at t row) col) refl
    where
      on : (r : Option ℕ) → first_bracket (row_at t row) col ≡ r → r ≡ Some i
      on (Some j) e = meet (plain_first j e) (dec_lt i j) (dec_lt j i)
        where
          meet : FirstPlain t row col j → Dec (i < j) → Dec (j < i) → Some j ≡ Some i
          meet g (yes l) d = absurd (g.first i f.from l f.plain)
          meet g (no l) (yes h) = absurd (f.first j g.from h g.plain)
          meet g (no l) (no h) = ap Some (omega arith)
      on None e = absurd (plain_none e i f.from f.in_row f.plain)
