-- Answers of `matching_bracket_pos`: two that are the same, whether a position is in the text, and when a call is refused.
-- Assumes nothing.
use Rattle.lists.proofs.Kit.{◌≡◌, sym, ◌∙◌, ap, List, Bool, true, false, cond, ◌&&◌, ℕ, ◌+◌, ◌<◌, dec_lt, ℕ_discrete, arith, ltb, eq-eqb, Option, Some, None}
use Rattle.text_check.specs.Accept.{text_refusal}
use Rattle.text.specs.Text.{row_count, row_len}
use Rattle.text.specs.Offsets.{row_start}
use Rattle.text.specs.declared.Position.{Position}
use Rattle.bracket_walks.specs.declared.Partner.TheVariants.{There, None as Partner-as-None, Refused}
use Rattle.bracket_walks.specs.Matching.{partner_of, placed}
use Rattle.brackets.specs.Matching.{matching_bracket_pos, Inside}
use Rattle.brackets.proofs.Call.{call_refused}
use Rattle.bracket_laws.specs.Demand.{Refusal}

pub there_once : {p q : Position} → There p ≡ There q → p ≡ q
there_once e = cc

there_answers : {p : Position} {f : ℕ} → There p ≡ Refused f → ⊥
there_answers e = let never : ◌≡◌ {A = ℕ} 0 1 = cc in omega arith

refused_once : {f g : ℕ} → Refused f ≡ Refused g → f ≡ g
refused_once e = cc

pub there_some : {p : Position} → There p ≡ Partner-as-None → ⊥
there_some e = let never : ◌≡◌ {A = ℕ} 0 1 = cc in omega arith

module _ (t : List ℕ) (row col : ℕ) where
  pub inside? : Dec (Inside t row col)
  inside? = on (dec_lt row (row_count t)) (dec_lt col (row_len t row))
    where
      on : Dec (row < row_count t) → Dec (col < row_len t row) → Dec (Inside t row col)
      on (yes p) (yes q) = yes (record { in_row = p; in_col = q })
      on (yes p) (no q) = no (λ h. q h.in_col)
      on (no p) d = no (λ h. p h.in_row)

  -- refused exactly where the text is, and with its number
  pub call_told : (f : ℕ) → matching_bracket_pos t row col ≡ Refused f → Refusal t f
  unfolding matching_bracket_pos placed
  call_told f e = on (ℕ_discrete (text_refusal t) 0)
    where
      met : (r : Option ℕ) (b : Bool) → cond b (placed t r) Partner-as-None ≡ Refused f → ⊥
      met (Some j) true q = let never : ◌≡◌ {A = ℕ} 0 1 = cc in omega arith
      met None true q = let never : ◌≡◌ {A = ℕ} 0 1 = cc in omega arith
      met r false q = let never : ◌≡◌ {A = ℕ} 0 1 = cc in omega arith

      on : Dec (text_refusal t ≡ 0) → Refusal t f
      on (yes z) =
          let inner = cond (ltb row (row_count t) && ltb col (row_len t row)) (placed t (partner_of t (row_start t row + col))) Partner-as-None in
          let same : matching_bracket_pos t row col ≡ inner = rw (eq-eqb _ _ z) in
          absurd (met (partner_of t (row_start t row + col)) (ltb row (row_count t) && ltb col (row_len t row)) (sym same ∙ e))
      on (no n) =
          let same : text_refusal t ≡ f = refused_once (sym (call_refused t row col n) ∙ e) in
          record { number = same; some = λ z. n (same ∙ z) }

  pub call_refusal : (f : ℕ) → Refusal t f → matching_bracket_pos t row col ≡ Refused f
  call_refusal f r = call_refused t row col (λ z. r.some (sym r.number ∙ z)) ∙ ap Refused r.number

  -- so a text that a partner is told of is accepted
  pub call_accepted : (q : Position) → matching_bracket_pos t row col ≡ There q → text_refusal t ≡ 0
  call_accepted q e = on (ℕ_discrete (text_refusal t) 0)
    where
      on : Dec (text_refusal t ≡ 0) → text_refusal t ≡ 0
      on (yes z) = z
      on (no n) = absurd (there_answers (sym e ∙ call_refused t row col n))
