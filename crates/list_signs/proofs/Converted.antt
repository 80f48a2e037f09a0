-- `Converted` and `Entry`: a converted list is read as before and has no retired sign, and 21 comes where there is one. Assumes nothing.
use Rattle.lists.proofs.Kit.{◌≡◌, refl, ap, sym, ◌∙◌, List, false, ℕ, add-one, arith, length, replicate, eqb, ltb, eq-eqb, lt-ltb, le-ltb, le-leb}
use Rattle.chars.specs.Scalar.{not_scalar}
use Rattle.list_parts.specs.Refusals.{list_refusal}
use Rattle.list_tokens.specs.declared.Token.{Token}
use Rattle.list_tokens.specs.Tokens.{tokens_in, tokens, any_token}
use Rattle.keywords.specs.Table.{parse_of}
use Rattle.lists.specs.Lists.{split}
use Rattle.list_signs.specs.Signs.{signs_in, signs}
use Rattle.list_signs.specs.Plain.{first_in, without, first_sign, plain, refused_at, entered_by, entry_of}
use Rattle.list_signs.specs.Converted.{Converted, Entry}
use Rattle.list_signs.proofs.Answers.{short, taken_scalars, cond_yes, cond_no}
use Rattle.list_signs.proofs.Bares.{bares_tokens, bares_none, plain_parts, dropped_stays}
use Rattle.list_signs.proofs.Joins.{signs_length}
use Rattle.list_signs.proofs.PlusLaws.{signs_pluses}
use Rattle.list_signs.proofs.WithoutLaws.{first_none_in, without_none, without_at, without_least, first_at, first_none, any_without}

plain_none : (l : List ℕ) → signs (plain l) ≡ replicate (length (signs (plain l))) false
plain_none l = ap signs_in (plain_parts l) ∙ bares_none (split 44 l) ∙ ap (λ (ps : List (List ℕ)). replicate (length (signs_in ps)) false) (sym (plain_parts l))

pub converted : (list : List ℕ) → Converted list
converted list =
    let same : tokens (plain list) ≡ tokens list = ap tokens_in (plain_parts list) ∙ bares_tokens (split 44 list) in
    record {
      same = same;
      holds = λ c. ap (λ (ts : List Token). any_token ts c) same;
      none_left = ap (first_in (plain list)) (plain_none list) ∙ first_none_in (plain list) (length (signs (plain list)));
      again = ap (without (plain list)) (plain_none list) ∙ without_none (plain list) (length (signs (plain list)));
      pluses = signs_pluses list;
      stays = λ k h e. rw (add-one k) (without_at list (signs list) k h (omega (arith, signs_length list)) e);
      by_parts = plain_parts list;
      dropped = dropped_stays;
      shorter = without_least list (signs list);
    }

-- where there is no sign, the entry is `parse`
parsed_entry : (list : List ℕ) → list_refusal list ≡ 0 → first_sign list ≡ length list → entry_of list ≡ entered_by (parse_of list)
parsed_entry list t e =
    let past = le-ltb (first_sign list) (length list) (omega arith) in
    cond_yes (eqb (list_refusal list) 0) _ _ (eq-eqb (list_refusal list) 0 t) ∙ cond_no (ltb (first_sign list) (length list)) _ _ past

-- a list that is taken is taken without its signs, and `parse` answers the same
plain_taken : (list : List ℕ) → list_refusal list ≡ 0 → list_refusal (plain list) ≡ 0
plain_taken list t =
    let short_enough = le-leb (length (plain list)) 1024 (omega (arith, without_least list (signs list), short list (list_refusal list) refl t)) in
    let scalars = any_without not_scalar list (signs list) (taken_scalars list t) in
    rw (short_enough, scalars)

same_parse : (list : List ℕ) → list_refusal list ≡ 0 → parse_of (plain list) ≡ parse_of list
same_parse list t = rw (plain_taken list t, t, (converted list).same)

pub entry : (list : List ℕ) (taken : list_refusal list ≡ 0) → Entry list taken
entry list t =
    record {
      retired = λ k h e f.
          let at : first_sign list ≡ k = first_at list (signs list) k h (omega (arith, signs_length list)) e f in
          let inside = lt-ltb (first_sign list) (length list) (omega arith) in
          cond_yes (eqb (list_refusal list) 0) _ _ (eq-eqb (list_refusal list) 0 t) ∙ cond_yes (ltb (first_sign list) (length list)) _ _ inside
          ∙ ap (refused_at 21) at;
      parses = λ f. parsed_entry list t (first_none list (signs list) (omega (arith, signs_length list)) f);
      converted = parsed_entry (plain list) (plain_taken list t) (converted list).none_left ∙ ap entered_by (same_parse list t);
    }
