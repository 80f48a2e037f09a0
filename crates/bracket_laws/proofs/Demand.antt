-- Demand 3 of the request: the statements of `specs/Demand.antt` hold of every accepted text, over the answers of `matching_bracket_pos`.
-- Assumes nothing.
use Rattle.lists.proofs.Kit.{◌≡◌, refl, sym, ◌∙◌, ap, subst, List, ℕ, ◌<◌, get_or, Option, Some, None}
use Rattle.text_check.specs.Accept.{text_refusal}
use Rattle.bracket_kinds.specs.declared.Kind.{Kind}
use Rattle.text.specs.declared.Position.{Position}
use Rattle.bracket_walks.specs.declared.Partner.TheVariants.{There, None as Partner-as-None}
use Rattle.bracket_laws.specs.Pairs.{Forward, Stand, same, before, behind, around, within}
use Rattle.bracket_walks.specs.Matching.{partner_of, pos_of, placed}
use Rattle.bracket_laws.specs.Demand.{answer_at, in_text, offset_of, PartnerAt, NoPartner, outside}
use Rattle.bracket_laws.specs.Demand.{alone, Refuses, Unique, Symmetric, PairAt, Before, NeverCross}
use Rattle.bracket_walks.proofs.Sides.{hands_differ}
use Rattle.bracket_laws.proofs.Pairs.{pairs_stand}
use Rattle.bracket_laws.proofs.Partners.{partner_back, to_in, of_kind}
use Rattle.bracket_laws.proofs.Answers.{partner_told, partner_found, alone_told, alone_found}
use Rattle.brackets.proofs.Call.{call_inside, call_outside}
use Rattle.bracket_laws.proofs.Call.{there_once, there_some, inside?, call_told, call_refusal}
use Rattle.bracket_laws.proofs.Positions.{offset_in_lem, point_pos, pos_offset, offset_pos, pos_in, offset_once, offset_before}

-- refused exactly where the text is
pub refuses : (t : List ℕ) → Refuses t
refuses t = record { refused = λ p. call_told t p.row p.col; refused_only = λ p. call_refusal t p.row p.col }

module _ (t : List ℕ) (ok : text_refusal t ≡ 0) where
  told : (p q : Position) → answer_at t p ≡ There q → PartnerAt t p q
  unfolding placed
  told p q e = on (inside? t p.row p.col)
    where
      met : in_text t p → (r : Option ℕ) → partner_of t (offset_of t p) ≡ r → placed t r ≡ There q → PartnerAt t p q
      met h (Some j) f g =
          let by_partner_told = partner_told t (offset_of t p) (offset_in_lem h) j f in
          let by_to_in = to_in by_partner_told in
          let pos_is : pos_of t j ≡ q = there_once g in
          let here : PartnerAt t p (pos_of t j) = record {
            from = h;
            to = pos_in t j by_to_in.0 by_to_in.1;
            partner = rw (offset_pos t j by_to_in.0 by_to_in.1) by_partner_told;
          } in
          subst (PartnerAt t p) pos_is here
      met h None f g = absurd (there_some (sym g))

      on : Dec (in_text t p) → PartnerAt t p q
      on (yes h) = met h (partner_of t (offset_of t p)) refl (sym (call_inside t p.row p.col ok h) ∙ e)
      on (no n) = absurd (there_some (sym e ∙ call_outside t p.row p.col ok n))

  found : (p q : Position) → PartnerAt t p q → answer_at t p ≡ There q
  unfolding placed
  found p q a =
      let by_partner_found = partner_found t (offset_of t p) (offset_in_lem a.from) (offset_of t q) a.partner in
      call_inside t p.row p.col ok a.from ∙ ap (placed t) by_partner_found ∙ ap There (pos_offset a.to)

  none : (p : Position) → answer_at t p ≡ Partner-as-None → NoPartner t p
  unfolding placed
  none p e = on (inside? t p.row p.col)
    where
      met : in_text t p → (r : Option ℕ) → partner_of t (offset_of t p) ≡ r → placed t r ≡ Partner-as-None → NoPartner t p
      met h (Some j) f g = absurd (there_some g)
      met h None f g = alone h (alone_told t (offset_of t p) (offset_in_lem h) f)

      on : Dec (in_text t p) → NoPartner t p
      on (yes h) = met h (partner_of t (offset_of t p)) refl (sym (call_inside t p.row p.col ok h) ∙ e)
      on (no n) = outside n

  none_only : (p : Position) → NoPartner t p → answer_at t p ≡ Partner-as-None
  unfolding placed
  none_only p (outside n) = call_outside t p.row p.col ok n
  none_only p (alone h a) = call_inside t p.row p.col ok h ∙ ap (placed t) (alone_found t (offset_of t p) (offset_in_lem h) a)

  pub unique : Unique t
  unique =
      record { once = λ p q r a b. there_once (sym (found p q a) ∙ found p r b); told = told; found = found; none = none; none_only = none_only }

  pub symmetric : Symmetric t
  symmetric p q e =
      let by_told = told p q e in
      found q p (record { from = by_told.to; to = by_told.from; partner = partner_back by_told.partner })

  pub pair_forward : {k : Kind} {p q : Position} → PairAt k t p q → Forward k t (offset_of t p) (offset_of t q)
  pair_forward {k} {p} {q} a =
      let by_told = told p q a.answer in
      of_kind k (sym (point_pos by_told.from) ∙ a.opens) by_told.partner

  pub never_cross : NeverCross t
  never_cross = record { stand = stand; share_none = share_none }
    where
      stand : (k : Kind) (p q p' q' : Position) → PairAt k t p q → PairAt k t p' q' → Stand Before p q p' q'
      stand k p q p' q' a b = on (pairs_stand (pair_forward a) (pair_forward b))
        where
          m : PartnerAt t p q
          m = told p q a.answer

          n : PartnerAt t p' q'
          n = told p' q' b.answer

          on : Stand ◌<◌ (offset_of t p) (offset_of t q) (offset_of t p') (offset_of t q') → Stand Before p q p' q'
          on (same e f) = same (offset_once m.from n.from e) (offset_once m.to n.to f)
          on (before l) = before (offset_before m.to n.from l)
          on (behind l) = behind (offset_before n.to m.from l)
          on (around l h) = around (offset_before m.from n.from l) (offset_before n.to m.to h)
          on (within l h) = within (offset_before n.from m.from l) (offset_before m.to n.to h)

      -- the open of one is not the close of another
      apart : {k : Kind} {p q p' q' : Position} → PairAt k t p q → PairAt k t p' q' → p ≡ q' → ⊥
      apart {k} a b e =
          let by_pair_forward = (pair_forward a).balanced.opens in
          let by_pair_forward_b = (pair_forward b).balanced.closes in
          hands_differ k k (sym by_pair_forward ∙ ap (λ (x : Position). get_or t (offset_of t x) 0) e ∙ by_pair_forward_b)

      share_none : (k : Kind) (p q p' q' : Position) → PairAt k t p q → PairAt k t p' q' → (p ≡ p' → ⊥) → (p ≡ q' → ⊥) × (q ≡ p' → ⊥) × (q ≡ q' → ⊥)
      share_none k p q p' q' a b n =
          (apart a b, λ e. apart b a (sym e), λ e. n (there_once (sym (symmetric p q a.answer) ∙ ap (answer_at t) e ∙ symmetric p' q' b.answer)))
