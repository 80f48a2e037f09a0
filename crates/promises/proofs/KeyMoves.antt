-- The % key: the statement of `specs/KeyMoves.antt` holds of every text and caret. Where no check refuses the call, its answer is where the key
-- goes to from the caret's row and column, and the laws of `bracket_laws` say where that is. Assumes nothing.
use Rattle.lists.proofs.Kit.{◌≡◌, refl, sym, ◌∙◌, ap, subst, List, [], ◌∷◌, ℕ, ℕ_discrete, arith, eq-eqb, ne_eqb}
use Rattle.text_check.specs.Accept.{text_refusal}
use Rattle.text.specs.declared.Position.{Position}
use Rattle.bracket_walks.specs.declared.Partner.{Partner}
use Rattle.bracket_walks.specs.declared.Partner.TheVariants.{There, None, Refused as Partner-as-Refused}
use Rattle.brackets.specs.Find.{key_from}
use Rattle.bracket_laws.specs.Jump.{pos_at, KeyGoes}
use Rattle.bracket_laws.proofs.Jump.{key_goes}
use Rattle.text.specs.declared.Position.{Position}
use Rattle.positions.proofs.Lowest.{lowest_none}
use Rattle.motions.specs.declared.Caret.{Caret}
use Rattle.motions.specs.declared.Sought.TheVariants.{Found, Missing, Refused}
use Rattle.motions.specs.Carets.{here, caret_refusal, refusal_of, placed, cleared}
use Rattle.motions.specs.Finds.{match_bracket, seeking, partner_to}
use Rattle.promises.specs.KeyMoves.{OnPartner, AsItWas, RefusedWith, Key}

-- the three answers differ
found_missing : {j k : Caret} → Found j ≡ Missing k → ⊥
found_missing e = let never : ◌≡◌ {A = ℕ} 0 1 = cc in omega arith

found_refused : {k : Caret} {f : ℕ} → Found k ≡ Refused f → ⊥
found_refused e = let never : ◌≡◌ {A = ℕ} 0 1 = cc in omega arith

missing_refused : {k : Caret} {f : ℕ} → Missing k ≡ Refused f → ⊥
missing_refused e = let never : ◌≡◌ {A = ℕ} 0 1 = cc in omega arith

found_once : {j k : Caret} → Found j ≡ Found k → j ≡ k
found_once e = cc

missing_once : {j k : Caret} → Missing j ≡ Missing k → j ≡ k
missing_once e = cc

refused_once : {f g : ℕ} → Refused f ≡ Refused g → f ≡ g
refused_once e = cc

abbrev goes_to : List ℕ → Caret → Partner
goes_to t k = key_from t k.row k.col

-- the answer by its cases
data Answer (t : List ℕ) (k : Caret) : Type 0 where
  there : refusal_of t k ≡ 0 → (q : Position) → goes_to t k ≡ There q → match_bracket t k ≡ Found (placed k q.row q.col) → Answer t k
  none : refusal_of t k ≡ 0 → goes_to t k ≡ None → match_bracket t k ≡ Missing (cleared k) → Answer t k
  number : (refusal_of t k ≡ 0 → ⊥) → match_bracket t k ≡ Refused (refusal_of t k) → Answer t k

module _ (t : List ℕ) (k : Caret) where
  text_clear : refusal_of t k ≡ 0 → text_refusal t ≡ 0
  text_clear z = (lowest_none (text_refusal t) (caret_refusal t k ∷ []) z).0

  goes : refusal_of t k ≡ 0 → KeyGoes t
  goes z = key_goes t (text_clear z)

  accepted_is : refusal_of t k ≡ 0 → match_bracket t k ≡ partner_to k (goes_to t k)
  unfolding seeking
  accepted_is z = rw (eq-eqb (refusal_of t k) 0 z)

  refused_is : (refusal_of t k ≡ 0 → ⊥) → match_bracket t k ≡ Refused (refusal_of t k)
  unfolding seeking
  refused_is n = rw (ne_eqb (refusal_of t k) 0 n)

  answer : Answer t k
  unfolding partner_to
  answer = on (ℕ_discrete (refusal_of t k) 0)
    where
      go : refusal_of t k ≡ 0 → (p : Partner) → goes_to t k ≡ p → Answer t k
      go z (There q) e = there z q e (accepted_is z ∙ ap (partner_to k) e)
      go z None e = none z e (accepted_is z ∙ ap (partner_to k) e)
      go z (Partner-as-Refused f) e = absurd ((goes z).answers k.row k.col f e)

      on : Dec (refusal_of t k ≡ 0) → Answer t k
      on (yes z) = go z (goes_to t k) refl
      on (no n) = number n (refused_is n)

  lands : (k' : Caret) → match_bracket t k ≡ Found k' → OnPartner t k k'
  lands k' e = on answer
    where
      on : Answer t k → OnPartner t k k'
      on (there z q f g) =
          let to : OnPartner t k (placed k q.row q.col) =
          record { accepted = z; partner = (goes z).lands k.row k.col q f; sticky_kept = refl; offset_cleared = refl } in
          subst (OnPartner t k) (found_once (sym g ∙ e)) to
      on (none z f g) = absurd (found_missing (sym e ∙ g))
      on (number n g) = absurd (found_refused (sym e ∙ g))

  goes_to_lem : (k' : Caret) → OnPartner t k k' → goes_to t k ≡ There (pos_at k'.row k'.col)
  goes_to_lem k' a = (goes a.accepted).lands_only k.row k.col (pos_at k'.row k'.col) a.partner

  lands_only : (k' : Caret) → OnPartner t k k' → match_bracket t k ≡ Found k'
  unfolding partner_to
  lands_only k' a = accepted_is a.accepted ∙ ap (partner_to k) (goes_to_lem k' a) ∙
      (λ i. Found (record { row = k'.row; col = k'.col; sticky = sym a.sticky_kept i; offset = sym a.offset_cleared i }))

  moves : (k' : Caret) → match_bracket t k ≡ Found k' → here k' ≡ here k → ⊥
  moves k' e h =
      let by_lands = lands k' e in
      (goes by_lands.accepted).moves k.row k.col (goes_to_lem k' by_lands ∙ ap (λ (p : Position). There (pos_at p.row p.col)) h)

  missing : (k' : Caret) → match_bracket t k ≡ Missing k' → AsItWas t k k'
  missing k' e = on answer
    where
      on : Answer t k → AsItWas t k k'
      on (there z q f g) = absurd (found_missing (sym g ∙ e))
      on (none z f g) = record { accepted = z; no_partner = (goes z).stays k.row k.col f; same = missing_once (sym e ∙ g) }
      on (number n g) = absurd (missing_refused (sym e ∙ g))

  missing_only : (k' : Caret) → AsItWas t k k' → match_bracket t k ≡ Missing k'
  unfolding partner_to
  missing_only k' a =
      accepted_is a.accepted ∙ ap (partner_to k) ((goes a.accepted).stays_only k.row k.col a.no_partner) ∙ ap Missing (sym a.same)

  refused : (f : ℕ) → match_bracket t k ≡ Refused f → RefusedWith t k f
  refused f e = on answer
    where
      on : Answer t k → RefusedWith t k f
      on (there z q h g) = absurd (found_refused (sym g ∙ e))
      on (none z h g) = absurd (missing_refused (sym g ∙ e))
      on (number n g) =
          let same : refusal_of t k ≡ f = refused_once (sym g ∙ e) in
          record { number = same; some = λ z. n (same ∙ z) }

  refused_only : (f : ℕ) → RefusedWith t k f → match_bracket t k ≡ Refused f
  refused_only f r = refused_is (λ z. r.some (sym r.number ∙ z)) ∙ ap Refused r.number

  pub key : Key t k
  key =
      record {
        lands = lands;
        lands_only = lands_only;
        moves = moves;
        missing = missing;
        missing_only = missing_only;
        refused = refused;
        refused_only = refused_only;
      }
