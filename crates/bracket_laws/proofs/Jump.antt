-- The % key: the statements of `specs/Jump.antt` hold of every accepted text.
-- Assumes nothing.
use Rattle.lists.proofs.Kit.{◌≡◌, refl, sym, ◌∙◌, ap, List, ◌⊎◌, inl, inr, ℕ, ◌<◌, eq-or-lt_of_le, arith, get_or, Option, Some, None}
use Rattle.text_check.specs.Accept.{text_refusal}
use Rattle.text.specs.Text.{row_at}
use Rattle.bracket_walks.specs.declared.Partner.TheVariants.{There, None as Partner-as-None, Refused}
use Rattle.text.specs.declared.Position.{Position}
use Rattle.bracket_laws.specs.Pairs.{IsPartner, forward, backward}
use Rattle.bracket_laws.specs.Demand.{PartnerAt}
use Rattle.bracket_kinds.specs.Find.{first_bracket}
use Rattle.brackets.specs.Find.{key_to, key_from}
use Rattle.bracket_laws.specs.Jump.{Plain, pos_at, Lands, Stays, no_plain, no_partner, KeyGoes}
use Rattle.bracket_laws.proofs.Partners.{kind_once}
use Rattle.bracket_laws.proofs.Call.{there_some}
use Rattle.bracket_laws.proofs.Positions.{point_pos}
use Rattle.bracket_laws.proofs.Plain.{plain_first, plain_none, plain_found}
use Rattle.bracket_laws.proofs.Demand.{refuses, unique}

-- the partner of a round, square or curly bracket is one, and is another
plain_partner : {t : List ℕ} {i j : ℕ} → IsPartner t i j → Plain (get_or t i 0) → Plain (get_or t j 0)
plain_partner (forward l f) p =
    record { kind = l; no_angle = λ e. p.no_angle (kind_once p.kind l p.bracket (inl f.balanced.opens) ∙ e); bracket = inr f.balanced.closes }
plain_partner (backward l f) p =
    record { kind = l; no_angle = λ e. p.no_angle (kind_once p.kind l p.bracket (inr f.balanced.closes) ∙ e); bracket = inl f.balanced.opens }

not_itself : {t : List ℕ} {i : ℕ} → IsPartner t i i → ⊥
not_itself (forward k f) = omega (arith, f.balanced.after)
not_itself (backward k f) = omega (arith, f.balanced.after)

module _ (t : List ℕ) (ok : text_refusal t ≡ 0) (row col : ℕ) where
  lands : (q : Position) → key_from t row col ≡ There q → Lands t row col q
  unfolding key_to
  lands q e = on (first_bracket (row_at t row) col) refl e
    where
      on : (r : Option ℕ) → first_bracket (row_at t row) col ≡ r → key_to t row r ≡ There q → Lands t row col q
      on (Some i) f g = record { at = i; first = plain_first t row col i f; partner = (unique t ok).told (pos_at row i) q g }
      on None f g = absurd (there_some (sym g))

  lands_only : (q : Position) → Lands t row col q → key_from t row col ≡ There q
  unfolding key_to
  lands_only q a = ap (key_to t row) (plain_found t row col a.at a.first) ∙ (unique t ok).found (pos_at row a.at) q a.partner

  stays : key_from t row col ≡ Partner-as-None → Stays t row col
  unfolding key_to
  stays e = on (first_bracket (row_at t row) col) refl e
    where
      on : (r : Option ℕ) → first_bracket (row_at t row) col ≡ r → key_to t row r ≡ Partner-as-None → Stays t row col
      on (Some i) f g = no_partner i (plain_first t row col i f) ((unique t ok).none (pos_at row i) g)
      on None f g = no_plain (plain_none t row col f)

  stays_only : Stays t row col → key_from t row col ≡ Partner-as-None
  unfolding key_to
  stays_only (no_plain n) = on (first_bracket (row_at t row) col) refl
    where
      on : (r : Option ℕ) → first_bracket (row_at t row) col ≡ r → key_to t row r ≡ Partner-as-None
      on (Some i) f = let by_plain_first = plain_first t row col i f in absurd (n i by_plain_first.from by_plain_first.in_row by_plain_first.plain)
      on None f = refl
  stays_only (no_partner i f n) = ap (key_to t row) (plain_found t row col i f) ∙ (unique t ok).none_only (pos_at row i) n

  answers : (f : ℕ) → key_from t row col ≡ Refused f → ⊥
  unfolding key_to
  answers f e = on (first_bracket (row_at t row) col) e
    where
      on : (r : Option ℕ) → key_to t row r ≡ Refused f → ⊥
      on (Some i) g = let by_refuses = (refuses t).refused (pos_at row i) f g in by_refuses.some (sym by_refuses.number ∙ ok)
      on None g = let never : ◌≡◌ {A = ℕ} 0 1 = cc in omega arith

  moves : key_from t row col ≡ There (pos_at row col) → ⊥
  moves e = on (eq-or-lt_of_le a.first.from)
    where
      a : Lands t row col (pos_at row col)
      a = lands (pos_at row col) e

      m : PartnerAt t (pos_at row a.at) (pos_at row col)
      m = a.partner

      on : (col ≡ a.at) ⊎ (col < a.at) → ⊥
      on (inl s) = not_itself (rw (← s) at m.partner)
      on (inr l) = a.first.first col (omega arith) l (rw (point_pos m.to) (plain_partner m.partner (rw (point_pos m.from) at a.first.plain)))

-- where the key goes it lands on the partner of the first round, square or curly bracket, and it stays exactly where there is none
pub key_goes : (t : List ℕ) → text_refusal t ≡ 0 → KeyGoes t
key_goes t ok =
    record { lands = lands t ok; lands_only = lands_only t ok; moves = moves t ok; stays = stays t ok; stays_only = stays_only t ok; answers = answers t ok }
